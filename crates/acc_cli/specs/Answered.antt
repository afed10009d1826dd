-- How a program ends that is to answer a status and to print a text.
use Rattle.std.specs.Prelude.{◌≡◌, ◌⊎◌, ℕ, Bool, false, List, [], Option}
use Rattle.std.specs.Io.KnownBytes.{Appends, Keeps}
use Rattle.acc_base.specs.declared.machines.Event.{Event}
use Rattle.acc_io.specs.Sinks.{WritesFront}
use Rattle.acc_cli.specs.Replies.{Reply}
use Rattle.acc_journalled.specs.declared.answers.Ending.TheVariants.{Done}
use Rattle.acc_cli.specs.declared.status.Status.{Status}
use Rattle.acc_cli.specs.declared.status.Status.TheVariants.{Sink, Memory, Ran}

-- A sink's fault makes Sink of Done, and leaves a front of the text.
--
-- For example, where Ran Done and the text `ok` are meant, and the sink held `a`: it holds `aok` now, and Ran Done is given; or, by a
-- fault of it, it holds `a`, `ao` or `aok`, and Sink is given. Where Ran DesignRefused is meant, that is given either way.
pub record Ends (meant : Reply) (old new : Option (List ℕ)) (fault : Type 0) (given : Status) (history : List Event) (settled : ℕ)
    : Type 0 where
  pub given_is : (given ≡ meant.status) ⊎ ((meant.status ≡ Ran Done) × (given ≡ Sink) × fault)
  pub history_is : history ≡ meant.history
  pub settled_is : settled ≡ meant.settled
  pub front : WritesFront old new meant.text
  pub whole : Appends old new meant.text ⊎ fault
  pub done : given ≡ Ran Done → Appends old new meant.text

-- Want of memory prints nothing, and tells no event, unless the command goes over a journal; else the answer is the meant one.
abbrev pub Answered : Bool → (Reply → Type 0) → Option (List ℕ) → Option (List ℕ) → Type 0 → Status → List Event → ℕ → Type 0
Answered over Meant old new fault given history settled =
    ((given ≡ Memory) × Keeps old new × (over ≡ false → (history ≡ []) × (settled ≡ 0)))
    ⊎ ((meant : Reply) × Meant meant × Ends meant old new fault given history settled)
