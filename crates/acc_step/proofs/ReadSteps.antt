-- One read, and then the rest.
use Rattle.std.proofs.Common.{◌≡◌, ℕ, ◌+◌, ◌<◌, Bool, true, false, cond, List, ◌∷◌, length, get_or, set, drop, ap, sym, ◌∙◌, refl, arith, ℤ}
use Rattle.std.proofs.Common.{Option, Some, None}
use Rattle.std.specs.Prelude.{option_and_then}
use Rattle.std.specs.List.{list_all}
use Rattle.std.specs.Cmp.{first_so}
use Rattle.std.proofs.lemmas.Bool.Decides.{nat_tests}
use Rattle.std.proofs.lemmas.List.{drop_more}
use Rattle.acc_base.specs.declared.tables.Row.{Row}
use Rattle.acc_base.specs.declared.steps.Read.{Read}
use Rattle.acc_base.specs.declared.machines.Frame.{Frame}
use Rattle.acc_base.specs.Numbers.{is_small, IsSmall}
use Rattle.acc_base.specs.Linear.{variables, lin_values}
use Rattle.acc_base.specs.Reads.{Reading, read_key, read_value, assigned, at_after, after_read, after_reads}
use Rattle.acc_step.specs.InRange.{value_read}
use Rattle.acc_step.specs.ReadValues.{read_of}

small_is : (x : ℤ) → is_small x ≡ true → IsSmall x
small_is x h = grind (arith, nat_tests)

-- what is read is small
pub read_small : (key : List ℤ) (v x : ℤ) → value_read key v ≡ Some x → IsSmall x
read_small key v x h = by (list_all is_small (v ∷ key)) refl h
  where
    by : (b : Bool) → list_all is_small (v ∷ key) ≡ b → cond b (Some v) None ≡ Some x → IsSmall x
    by true e g = let same : v ≡ x = cc in small_is x (ap is_small (sym same) ∙ first_so (is_small v) (list_all is_small key) e)
    by false e g = cc

module _ (db : List Row) (f : Frame) (s : Reading) (r : Read) where
  abbrev then_read : Option ℤ → Option Reading
  then_read None = None
  then_read (Some v) = Some (record { locals = set s.locals (assigned r) v; at = at_after (length f.tape) s.at r })

  one_read : after_read db f s r ≡ then_read (read_of db f.tape s.at (variables f.t s.locals) r)
  one_read =
      by (list_all is_small (read_value db f.tape s.at (variables f.t s.locals) r ∷ lin_values (variables f.t s.locals) (read_key r)))
    where
      by : (b : Bool) →
          cond b (Some (record {
            locals = set s.locals (assigned r) (read_value db f.tape s.at (variables f.t s.locals) r);
            at =
                at_after (length f.tape) s.at r;
          })) None ≡ then_read (cond b (Some (read_value db f.tape s.at (variables f.t s.locals) r)) None)
      by true = refl
      by false = refl

  module _ (reads : List Read) (i : ℕ) (within : i < length reads) (here : r ≡ get_or reads i r) where
    rest_is : drop i reads ≡ r ∷ drop (i + 1) reads
    rest_is = drop_more reads i r within ∙ ap (λ x. x ∷ drop (i + 1) reads) (sym here)

    pub read_fails : read_of db f.tape s.at (variables f.t s.locals) r ≡ None → after_reads db f (drop i reads) s ≡ None
    read_fails e =
        ap (λ rs. after_reads db f rs s) rest_is ∙ ap (option_and_then (after_reads db f (drop (i + 1) reads))) (one_read ∙ ap then_read e)

    pub read_goes : (x : ℤ) → read_of db f.tape s.at (variables f.t s.locals) r ≡ Some x →
        after_reads db f (drop i reads) s ≡ after_reads db f (drop (i + 1) reads)
        (record { locals = set s.locals (assigned r) x; at = at_after (length f.tape) s.at r })
    read_goes x e =
        ap (λ rs. after_reads db f rs s) rest_is ∙ ap (option_and_then (after_reads db f (drop (i + 1) reads))) (one_read ∙ ap then_read e)
