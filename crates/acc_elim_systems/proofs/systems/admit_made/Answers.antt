use Rattle.std.proofs.Common.{◌≡◌, ℕ, List, ◌<◌, ◌≤◌, ◌++◌, ◌∷◌, [], length, get_or, arith, ◌∙◌, ap, sym, subst}
use Rattle.std.proofs.Math.Seq.{get_or-append_seam}
use Rattle.acc_rows.specs.declared.rows.Row.{Row}
use Rattle.acc_elim_systems.specs.Repetitions.{GrowTogether}
use Rattle.acc_elim_systems.proofs.Apart.{admitted_grows, told_stayed, told_grown}
use Rattle.acc_elim_systems.proofs.systems.admit_made.Goals as goal
use Rattle.acc_elim_systems.proofs.systems.admit_made.Goals.{then-before-len+in_ok-form_of+in_ok-push, else-before-len}

-- the form of the last relation of a system is that of the one it grew by
form_is : (rows more : List Row) (i : ℕ) (last row form : Row) → i ≡ length rows → more ≡ rows ++ row ∷ [] → last ≡ get_or more i last
    → form ≡ record last { by = [] } → form ≡ record row { by = [] }
form_is rows more i last row form place grown here is =
    let same : last ≡ row = here ∙ ((λ k. get_or (grown k) (place k) last) ∙ get_or-append_seam rows row [] last) in
    is ∙ ap (λ (r : Row). record r { by = [] }) same

pub returns-clause-told : goal.returns-clause-told
returns-clause-told c =
    let grows = admitted_grows c.args.kept.now.items c.admit.new.rows.items c.args.row c.in_ok-admit.ensures in
    let some = c.args.made.now.items in
    let rows = c.args.kept.now.items in
    elim c.if-before-len.branch [
      | then-before-len+in_ok-form_of+in_ok-push w ↦ let longer : length rows < length c.admit.new.rows.items = omega
          (arith, w.if-before-len.true, c.len-before.ensures, c.len.ensures) in
          let place : c.len-before.result ≡ length rows = omega (arith, c.len-before.ensures) in
          told_grown some rows c.if-before-len.made.items c.admit.new.rows.items c.args.row
          (ap (λ v. v.items) w.made-is ∙ (w.in_ok-push.ensures.items ∙ ap (λ (r : Row). some ++ r ∷ []) (form_is rows
          c.admit.new.rows.items _ w.index.result.now c.args.row _ place (grows.grown longer) w.index.ensures
          w.in_ok-form_of.ensures))) (grows.grown longer)
      | else-before-len w ↦ let within : length c.admit.new.rows.items ≤ length rows = omega
          (arith, w.if-before-len.false, c.len-before.ensures, c.len.ensures) in
          subst (λ v. GrowTogether some rows v c.admit.new.rows.items) (sym (ap (λ v. v.items) w.made-is))
          (told_stayed some rows c.admit.new.rows.items (grows.stayed within))
    ]
