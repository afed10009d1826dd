-- Texts that are drawn and written one part behind the other.
use Rattle.std.proofs.Common.{◌≡◌, ℕ, zero, suc, ◌+◌, ◌-◌, ◌<◌, ◌≤◌, List, ◌++◌, refl, ap, sym, subst, ◌∙◌, append_assoc, arith}
use Rattle.std.proofs.lemmas.List.{append-nil}
use Rattle.rand_pcg.specs.Lcg.{Lcg}
use Rattle.acc_page.specs.Written.{Written, Adds, Owes}
use Rattle.acc_page.proofs.Adding.{adds_both}
use Rattle.tpcc_gen.specs.Draws.{each, both}
use Rattle.tpcc_gen.specs.Writing.{Writes}

-- in the midst of a loop: what is left, drawn and written from here on, makes of the page what the whole makes of the old one
pub record Goes (old : Written) (before : Lcg) (now : Written) (here : Lcg) (rest whole : Lcg → List ℕ × Lcg) : Type 0 where
  pub text : Owes old now (rest here).0 (whole before).0
  pub moved : (rest here).1 ≡ (whole before).1

-- of the numbers from k to m, without m, none is done yet
pub goes_all :
    (old : Written) (before : Lcg) (draw : ℕ → Lcg → List ℕ × Lcg) (m k n : ℕ) → m - k ≡ n
    → Goes old before old before (each draw (m - k) k) (each draw n k)
goes_all old before draw m k n e =
    subst (λ (z : ℕ). Goes old before old before (each draw z k) (each draw n k)) (sym e)
    (record { text = λ fits. (fits, refl); moved = refl })

-- number k is done
pub goes_on :
    (old : Written) (before : Lcg) (now next : Written) (here there : Lcg) (draw : ℕ → Lcg → List ℕ × Lcg)
    (whole : Lcg → List ℕ × Lcg) (m k : ℕ) → k < m → Goes old before now here (each draw (m - k) k) whole
    → Writes now here next there (draw k) → Goes old before next there (each draw (m - (k + 1)) (k + 1)) whole
unfolding each
goes_on old before now next here there draw whole m k more goes done =
    let left : m - k ≡ suc (m - (k + 1)) = omega arith in
    let owed : Goes old before now here (each draw (suc (m - (k + 1))) k) whole =
    subst (λ (z : ℕ). Goes old before now here (each draw z k) whole) left goes in
    let rest = λ (g : Lcg). each draw (m - (k + 1)) (k + 1) g in
    record {
      text = λ fits.
          let was = done.0 fits in
          let whole = owed.text was.0 in (
            whole.0,
            ap (λ (z : List ℕ). z ++ (rest there).0) was.1
                ∙ (append_assoc now.text (draw k here).0 (rest there).0
                ∙ (ap (λ (g : Lcg). now.text ++ ((draw k here).0 ++ (rest g).0)) done.1 ∙ whole.1)),
          );
      moved = ap (λ (g : Lcg). (rest g).1) done.1 ∙ owed.moved;
    }

-- none is left
pub goes_past :
    (old : Written) (before : Lcg) (now : Written) (here : Lcg) (draw : ℕ → Lcg → List ℕ × Lcg)
    (whole : Lcg → List ℕ × Lcg) (m k : ℕ) → m ≤ k → Goes old before now here (each draw (m - k) k) whole
    → Writes old before now here whole
unfolding each
goes_past old before now here draw whole m k past goes =
    let left : m - k ≡ zero = omega arith in
    let owed : Goes old before now here (each draw zero k) whole =
    subst (λ (z : ℕ). Goes old before now here (each draw z k) whole) left goes in
    (λ fits. ((owed.text fits).0, sym (append-nil now.text) ∙ (owed.text fits).1), owed.moved)

-- one text behind the other
pub writes_both :
    (old middle new : Written) (before between after : Lcg) (first second : Lcg → List ℕ × Lcg)
    → Writes old before middle between first → Writes middle between new after second → Writes old before new after (both first second)
writes_both old middle new before between after first second one other =
    let behind : Adds middle new (second (first before).1).0 = subst (λ (g : Lcg). Adds middle new (second g).0) one.1 other.0 in (
      adds_both old middle new (first before).0 (second (first before).1).0 one.0 behind,
      other.1 ∙ ap (λ (g : Lcg). (second g).1) one.1,
    )
