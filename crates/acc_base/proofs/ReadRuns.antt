-- The locals and the place on the tape after the reads of a step.
use Rattle.std.proofs.Common.{◌≡◌, ℕ, ◌≤◌, List, [], ◌∷◌, length, subst, refl, ◌∙◌, arith, Option, Some, None, set, length-set}
use Rattle.std.specs.Prelude.{All, option_and_then}
use Rattle.std.specs.List.{list_all}
use Rattle.std.specs.Cmp.{first_so}
use Rattle.std.proofs.lemmas.Option.{same_Some, none-some, cond_some}
use Rattle.std.proofs.lemmas.Bool.Decides.{nat_tests}
use Rattle.std.proofs.lemmas.List.Elements.{All-set}
use Rattle.acc_base.specs.declared.tables.Row.{Row}
use Rattle.acc_base.specs.declared.steps.Read.{Read}
use Rattle.acc_base.specs.declared.steps.Read.TheVariants.{Let, Col, Has, Count, Sum, Least, Greatest, Take, Mul, Div}
use Rattle.acc_base.specs.declared.machines.Frame.{Frame}
use Rattle.acc_base.specs.Numbers.{is_small, IsSmall}
use Rattle.acc_base.specs.Linear.{variables, lin_values}
use Rattle.acc_base.specs.Reads.{Reading, assigned, read_key, read_value, at_after, after_read, after_reads}
use Rattle.acc_base.proofs.Smalls.{small_is}

at_within : (long at : ℕ) (r : Read) → at ≤ long → at_after long at r ≤ long
at_within long at (Let x l) h = h
at_within long at (Col x t k c) h = h
at_within long at (Has x t k) h = h
at_within long at (Count x t p) h = h
at_within long at (Sum x t p c) h = h
at_within long at (Least x t p) h = h
at_within long at (Greatest x t p) h = h
at_within long at (Take x) h = grind (arith, nat_tests)
at_within long at (Mul x y z) h = h
at_within long at (Div x y c) h = h

-- what reads leave: as many locals, in range; and a place on the tape, if it was on it
pub record ReadsLeave (f : Frame) (s : Reading) : Type 0 where
  pub kept : length s.locals ≡ length f.locals
  pub small : All IsSmall s.locals
  pub at : f.pos ≤ length f.tape → s.at ≤ length f.tape

module _ (db : List Row) (f : Frame) where
  one_leaves : (s next : Reading) (r : Read) → after_read db f s r ≡ Some next → ReadsLeave f s → ReadsLeave f next
  one_leaves s next r e h =
      let v = read_value db f.tape s.at (variables f.t s.locals) r in
      let c = cond_some (list_all is_small (v ∷ lin_values (variables f.t s.locals) (read_key r)))
      (record { locals = set s.locals (assigned r) v; at = at_after (length f.tape) s.at r }) next e in
      let small = small_is v (first_so (is_small v) (list_all is_small (lin_values (variables f.t s.locals) (read_key r))) c.0) in
      subst (ReadsLeave f) c.1 (record {
        kept = length-set s.locals (assigned r) v
            ∙ h.kept;
        small = All-set IsSmall s.locals (assigned r) v small h.small;
        at = λ q. at_within (length f.tape) s.at r (h.at q);
      })

  pub reads_leave : (rs : List Read) (s last : Reading) → after_reads db f rs s ≡ Some last → ReadsLeave f s → ReadsLeave f last
  reads_leave [] s last e h = subst (ReadsLeave f) (same_Some s last e) h
  reads_leave (r ∷ rs) s last e h = by (after_read db f s r) refl (λ x k g. reads_leave rs x last k g) e
    where
      by : (o : Option Reading) → after_read db f s r ≡ o
          → ((x : Reading) → after_reads db f rs x ≡ Some last → ReadsLeave f x → ReadsLeave f last)
          → option_and_then (after_reads db f rs) o ≡ Some last → ReadsLeave f last
      by None k ih g = absurd (none-some last g)
      by (Some x) k ih g = ih x g (one_leaves s x r k h)
