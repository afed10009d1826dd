-- The lists of a sequent: its instances, and the forms to split by.
use Rattle.std.specs.Prelude.{Bool, true, false, ◌||◌, ◌&&◌, if◌then◌else◌, List, [], ◌∷◌, length, map, Ok, Err, nat_lt, ℤ, pos}
use Rattle.std.specs.Prelude.{negsuc}
use Rattle.std.specs.List.{fold, list_any}
use Rattle.std.specs.Ordering.{int_eq}
use Rattle.acc_base.specs.declared.bounds.TheConstants.{MOST_SPLITS}
use Rattle.acc_base.specs.declared.forms.Lin.{Lin}
use Rattle.acc_base.specs.declared.forms.Form.{Form}
use Rattle.acc_base.specs.declared.forms.Rel.{Rel}
use Rattle.acc_base.specs.declared.sequents.Sequent.{Sequent}
use Rattle.acc_base.specs.Sums.{Term, form_sum, is_sum_wide}
use Rattle.acc_axioms.specs.Axioms.{lin_form}
use Rattle.acc_inst.specs.declared.listing.Listed.{Listed}
use Rattle.acc_prover_choices.specs.declared.listing.InstError.TheVariants.{Crowded, Wide}
use Rattle.acc_inst.specs.declared.making.Instance.{Instance}
use Rattle.acc_inst.specs.Making.{Chosen, instance_of, is_instance_wide}
use Rattle.acc_base.specs.Computing.{chain}
use Rattle.acc_prover_choices.specs.Parts.{Listing, with_first}
use Rattle.acc_inst.specs.Instances.{instances_of}

-- ---- forms to split by

abbrev pub no_terms : List Term → Bool
no_terms [] = true
no_terms (t ∷ ts) = false

abbrev pub is_nothing : Form → Bool
is_nothing f = no_terms f.terms && int_eq f.constant (pos 0)

-- a form and a multiple of another have nothing as their sum, and no number of that is too large
abbrev pub cancels : ℤ → Form → Form → Bool
cancels by f g = if is_sum_wide f by g then false else is_nothing (form_sum f by g)

-- a form is another, or less it, whatever the order of their terms
abbrev pub same_split : Form → Form → Bool
same_split f g = cancels (negsuc 0) f g || cancels (pos 1) f g

-- one more form, unless it is a constant or stands there
abbrev pub with_split : List Form → Form → List Form
with_split splits f = if no_terms f.terms then splits else with_first same_split splits f

abbrev pub with_lin : List Form → Lin → List Form
with_lin splits l = with_split splits (lin_form l)

-- the linear values that the unknowns of a form stand under
abbrev pub with_lins : List Form → List Lin → List Form
with_lins splits ls = fold with_lin splits ls

abbrev pub with_unders : List Form → Term → List Form
with_unders splits t = with_lins splits t.0.under

abbrev pub with_form : List Form → Form → List Form
with_form splits f = fold with_unders splits f.terms

abbrev pub with_rel : List Form → Rel → List Form
with_rel splits r = with_form splits r.form

abbrev pub with_instance : List Form → Instance → List Form
with_instance splits i = with_rel (fold with_rel splits i.guards) i.rel

abbrev pub with_guard : List Form → Rel → List Form
with_guard splits r = with_split splits r.form

abbrev pub with_guards : List Form → Instance → List Form
with_guards splits i = fold with_guard splits i.guards

-- the hints, then what unknowns of the sequent and of the instances stand under, then the guards
abbrev pub splits_of : Sequent → List Lin → List Instance → List Form
splits_of q hints made =
    fold with_guards (fold with_instance (with_form (fold with_rel (with_lins [] hints) q.rels) q.goal) made) made

-- ---- the lists, or the first reason why there are none

-- where the splits are few
abbrev pub few : List Form → List Chosen → Listing Listed
few splits insts = if nat_lt MOST_SPLITS (length splits) then Err Crowded else Ok (record { splits = splits; insts = insts })

abbrev pub listed : Sequent → List Lin → List Chosen → Listing Listed
listed q hints insts =
    if list_any (is_instance_wide q) insts then Err Wide else few (splits_of q hints (map (instance_of q) insts)) insts

abbrev pub lists_of : Sequent → List Lin → Listing Listed
lists_of q hints = chain (instances_of q hints) (listed q hints)
