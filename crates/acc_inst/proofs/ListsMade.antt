-- What the lists made of listed instances are.
use Rattle.std.proofs.Common.{◌≡◌, Bool, true, false, List, length, Result, Ok, Err, sym, subst, if◌then◌else◌}
use Rattle.std.specs.Prelude.{All, IfOk, map, nat_lt}
use Rattle.std.specs.List.{list_any}
use Rattle.acc_base.specs.declared.bounds.TheConstants.{MOST_SPLITS}
use Rattle.acc_base.specs.declared.forms.Lin.{Lin}
use Rattle.acc_base.specs.declared.forms.Form.{Form}
use Rattle.acc_base.specs.declared.sequents.Sequent.{Sequent}
use Rattle.acc_inst.specs.declared.listing.Listed.{Listed}
use Rattle.acc_prover_choices.specs.declared.listing.InstError.{InstError}
use Rattle.acc_prover_choices.specs.declared.listing.InstError.TheVariants.{Crowded, Wide}
use Rattle.acc_inst.specs.declared.lists.Made.{Made}
use Rattle.acc_inst.specs.Making.{Chosen, instance_of, is_instance_wide, IsOf}
use Rattle.acc_inst.specs.Instances.{instances_of}
use Rattle.acc_inst.specs.Lists.{splits_of, listed}
use Rattle.acc_inst.proofs.OfHypotheses.{listed_are_of}

module _ (q : Sequent) (hints : List Lin) (insts : List Chosen) where
  -- the instances of the lists are those that are listed
  listed_has : (l : Listed) → listed q hints insts ≡ Ok l → l.insts ≡ insts
  listed_has l e =
      by (splits_of q hints (map (instance_of q) insts)) (list_any (is_instance_wide q) insts)
      (nat_lt MOST_SPLITS (length (splits_of q hints (map (instance_of q) insts)))) e
    where
      by : (splits : List Form) (wide many : Bool) →
          (if wide then Err Wide else (if many then Err Crowded else Ok (record { splits = splits; insts = insts }))) ≡ Ok l →
          l.insts ≡ insts
      by splits true many e = absurd (cc)
      by splits false true e = absurd (cc)
      by splits false false e = cc

  pub made_of : (r : Result Made InstError) → instances_of q hints ≡ Ok insts → IfOk r (λ m. listed q hints insts ≡ Ok m.listed) →
      IfOk r (λ m. All (IsOf q) m.listed.insts)
  made_of (Ok m) e h = subst (All (IsOf q)) (sym (listed_has m.listed h)) (listed_are_of q hints insts e)
  made_of (Err x) e h = tt
