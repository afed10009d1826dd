use Rattle.std.proofs.Common.{◌≡◌, ℕ, ◌+◌, ◌-◌, List, [], length, drop, ap, sym, subst, ◌∙◌, arith}
use Rattle.std.specs.Prelude.{slice_get, slice_set, Some}
use Rattle.std.proofs.lemmas.List.{drop_all}
use Rattle.acc_base.specs.declared.steps.Read.{Read}
use Rattle.acc_base.specs.Reads.{assigned, read_key}
use Rattle.acc_oblig.specs.declared.naming.Naming.{Naming}
use Rattle.acc_oblig.specs.Settings.{with_self}
use Rattle.acc_oblig.specs.Ranges as definitions
use Rattle.acc_oblig.specs.Ranges.{read_numbers}
use Rattle.acc_oblig_ranges.specs.declared.found.Found.TheVariants.{Number, Behind}
use Rattle.acc_oblig_ranges.specs.Numbers.{StandsAt, one_read_numbers, seen_read}
use Rattle.acc_oblig_ranges.proofs.Standing.{stands_front, stands_behind, reads_next, parts_of_read}
use Rattle.acc_oblig_ranges.proofs.read_numbers.among_reads.Goals as goal

pub returns-then-left-parts-clause-value : goal.returns-then-left-parts-clause-value
returns-then-left-parts-clause-value c =
    let s = c.args.s.now in
    let vars = c.step_vars-vars.result in
    let now = c.loop-i.now in
    let x = c.loop-i.x in
    let i = c.loop-i.i in
    let r = c.r-item.result in
    let left = c.loop-i.left in
    let m = c.in_ok-read_number.field-0 in
    let one = one_read_numbers (with_self now s.locals (vars + 1)) x i r in
    let rest = read_numbers s.locals vars (slice_set now (assigned r) x) (x + 1) (i + 1) (drop (i + 1) s.reads.now) in
    let here : slice_get one left ≡ Some (seen_read m) =
    ap (λ (n : Naming). slice_get (one_read_numbers n x i r) left) (sym c.in_ok-n.ensures) ∙ c.in_ok-read_number.ensures.value in
    c.loop-i.invariant.on (Number m)
    (subst (λ (z : List definitions.ReadNumber). StandsAt seen_read z left (Number m))
    (reads_next s.locals vars now x i s.reads.now r c.loop-i-test.true c.r-item.is) (stands_front seen_read one rest left m here))

pub loop-i-preserved : goal.loop-i-preserved
loop-i-preserved c =
    let s = c.args.s.now in
    let vars = c.step_vars-vars.result in
    let now = c.loop-i.now in
    let x = c.loop-i.x in
    let i = c.loop-i.i in
    let r = c.r-item.result in
    let left = c.loop-i.left in
    let behind = left - (length c.read_key-parts.result.now + 1) in
    let n = with_self now s.locals (vars + 1) in
    let rest = read_numbers s.locals vars (slice_set now (assigned r) x) (x + 1) (i + 1) (drop (i + 1) s.reads.now) in
    let parts = parts_of_read n x i r in
    let key : length c.read_key-parts.result.now ≡ length (read_key r) = ap length c.read_key-parts.ensures in
    let names = c.with_name-now.ensures ∙ ap (λ y. slice_set now y x) c.assigned.ensures in
    let place : left ≡ length (one_read_numbers n x i r) + behind = omega (arith, parts, key) in
    record {
      x = omega arith;
      on = λ f h.
          c.loop-i.invariant.on f
          (subst (λ (z : List definitions.ReadNumber). StandsAt seen_read z left f)
          (reads_next s.locals vars now x i s.reads.now r c.loop-i-test.true c.r-item.is)
          (stands_behind seen_read (one_read_numbers n x i r) rest left behind f place
          (subst (λ (ns : List ℕ). StandsAt seen_read (read_numbers s.locals vars ns (x + 1) (i + 1) (drop (i + 1) s.reads.now)) behind f)
          names h)));
    }

pub returns-clause-value : goal.returns-clause-value
returns-clause-value c =
    let s = c.args.s.now in
    let vars = c.step_vars-vars.result in
    let left = c.loop-i.left in
    let numbers = read_numbers s.locals vars c.loop-i.now c.loop-i.x c.loop-i.i in
    let none : left ≡ length (numbers []) + left = omega arith in
    c.loop-i.invariant.on (Behind left)
    (subst (λ (rs : List Read). left ≡ length (numbers rs) + left) (sym (drop_all c.loop-i.i s.reads.now c.loop-i-test.false)) none)
