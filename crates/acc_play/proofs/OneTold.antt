-- One thing is told of a play.
use Rattle.std.proofs.Common.{◌≡◌, ℕ, List, sym, ap, ◌∙◌}
use Rattle.acc_base.specs.declared.designs.Design.{Design}
use Rattle.acc_base.specs.declared.machines.Call.{Call}
use Rattle.acc_base.specs.declared.machines.Event.{Event}
use Rattle.acc_base.specs.Plays.{Play, Told, opening, play_after}
use Rattle.acc_base.specs.Lines.{play_text}
use Rattle.acc_base.proofs.PlainPlays.{plays_once}
use Rattle.acc_play.specs.Tells.{Tells}

pub tells_once : (d : Design) (calls : List Call) (order : List ℕ) (t u : List ℕ) (h k : List Event) → Tells d calls order t h →
    Tells d calls order u k → (t ≡ u) × (h ≡ k)
tells_once d calls order t u h k a b =
    let same : a.mentions ≡ b.mentions = plays_once d calls order a.mentions b.mentions a.is_played b.is_played in (
      a.text_is ∙ ap (play_text d calls) same ∙ sym b.text_is,
      a.history_is ∙ ap (λ (xs : List (Told × Play)). (play_after (opening calls) xs).world.events) same ∙ sym b.history_is,
    )
