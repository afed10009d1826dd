-- What is known behind an event of the state before it.
use Rattle.std.proofs.Common.{◌≡◌, ◌⊎◌, inl, inr, ℕ, ◌<◌, ◌^◌, ◌==◌, List, length, Bool, true, false, Some, None, refl, sym, ◌∙◌}
use Rattle.std.specs.Prelude.{if◌then◌else◌, IfSome}
use Rattle.std.specs.Borrow.{Bor}
use Rattle.std.proofs.lemmas.Bool.{false≢true}
use Rattle.std.proofs.lemmas.Bool.Decides.{Decides-eqb}
use Rattle.acc_base.specs.declared.designs.Design.{Design}
use Rattle.acc_base.specs.declared.machines.Event.{Event}
use Rattle.acc_base.specs.Machine.{World, unfinished, after_event}
use Rattle.acc_plain.specs.Reached.{IsReached}
use Rattle.acc_store.specs.declared.writes.Write.{Write}
use Rattle.acc_audit.specs.declared.frames.KnownBefore.{KnownBefore}
use Rattle.acc_audit.specs.Audits.{IsClear, IsFirstOf}
use Rattle.acc_audit.specs.Since.{AreOf, IsKnown, WereClearBut, known_at, moved_by}
use Rattle.acc_audit.proofs.Moving.{frames_but}

module _ (d : Design) (w after : World) (e : Event) (writes : Bor (List Write)) (are : AreOf d w e writes.now)
    (leads : after_event d w e ≡ Some after) (reached : IsReached d after) (few : length after.events < 2 ^ 31) where
  pub known_behind : (place : ℕ) → (place ≡ 0) ⊎ IsClear d w.rows (unfinished w) →
      IsKnown d after.rows (unfinished after) (known_at place (moved_by e (unfinished after)) writes)
  known_behind place clear = by (place == 0) refl clear
    where
      by : (b : Bool) → (place == 0) ≡ b → (place ≡ 0) ⊎ IsClear d w.rows (unfinished w) →
          IfSome {T = KnownBefore} (if b then None else Some (record { writes = writes; moved = moved_by e (unfinished after) }))
          (λ k. WereClearBut d k.writes.now after.rows k.moved (unfinished after))
      by true is h = tt
      by false is (inl h) = absurd (false≢true (sym is ∙ (Decides-eqb place 0).1 h))
      by false is (inr c) = record {
        before = w.rows;
        led = are after leads;
        always = c.always;
        each = frames_but d w after e (λ f. IsFirstOf d w.rows f None) reached few leads c.each;
      }
