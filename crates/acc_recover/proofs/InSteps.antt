-- The journal keeps step with the state.
use Rattle.std.proofs.Common.{◌≡◌, ℕ, ◌≤◌, ◌<◌, ◌+◌, ◌^◌, ◌++◌, List, [], ◌∷◌, false, length, refl, sym, ◌∙◌, ap, arith, append_assoc}
use Rattle.std.proofs.Common.{length-append}
use Rattle.std.proofs.lemmas.List.{append-nil, flat_map_more}
use Rattle.acc_base.specs.declared.machines.Event.{Event}
use Rattle.acc_wal.specs.Spellings.{body, event_bytes}
use Rattle.acc_wal.specs.Wals.{Journal}
use Rattle.acc_wal.specs.Settling.{Pushes, LacksSo, SameButRoom}
use Rattle.acc_wal.specs.declared.errors.WalError.{WalError}
use Rattle.acc_wal.specs.declared.errors.WalError.TheVariants.{Exists, NotJournal, OtherVersion, Damaged, Disk, Spent, Memory}
use Rattle.acc_recover.specs.Steps.{InStep, TailOnly}

pub cannot_lack : (error : WalError) (room size : ℕ) → size ≤ room → LacksSo error false room size → ⊥
cannot_lack Spent room size enough lacks = absurd cc
cannot_lack Memory room size enough lacks = omega (arith, enough, lacks.1)
cannot_lack Exists room size enough lacks = lacks
cannot_lack NotJournal room size enough lacks = lacks
cannot_lack (OtherVersion v) room size enough lacks = lacks
cannot_lack (Damaged p) room size enough lacks = lacks
cannot_lack Disk room size enough lacks = lacks

module _ {D : Type 0} (events : List Event) where
  pub in_step_new : (wal : Journal D) → wal.tail ≡ [] → wal.spent ≡ false → wal.waiting ≡ [] → events ≡ wal.durable → InStep events wal
  unfolding body
  in_step_new wal none unspent quiet is = record {
    same = ap (λ (l : List Event). wal.durable ++ l) none ∙ append-nil wal.durable ∙ sym is;
    short = omega (arith, ap (λ (l : List Event). length (body l)) none);
    quiet = quiet;
    unspent = unspent;
  }

  pub tail_short : (wal : Journal D) → InStep events wal → length events ≤ 2 ^ 24 → length (body wal.tail) + 14 < 2 ^ 32
  tail_short wal i few = omega (arith, i.short, ap length i.same, length-append wal.durable wal.tail, few)

  pub still_in_step : (more : List Event) (old new : Journal D) (event : Event) → InStep events old → Pushes event old new →
      length (event_bytes event) ≤ 14 → more ≡ events ++ event ∷ [] → InStep more new
  unfolding body
  still_in_step more old new event i p brief is = record {
    same = ap (λ (l : List Event). l ++ new.tail) p.durable ∙ ap (λ (l : List Event). old.durable ++ l) p.tail ∙ sym
        (append_assoc old.durable old.tail (event ∷ [])) ∙ ap (λ (l : List Event). l ++ event ∷ []) i.same ∙ sym is;
    short = omega (
      arith,
      i.short,
      ap (λ (l : List Event). length (body l)) p.tail,
      ap length (flat_map_more event_bytes [] old.tail event),
      length-append (body old.tail) (event_bytes event),
      brief,
      ap length p.tail,
      length-append old.tail (event ∷ []),
    );
    quiet = p.waiting ∙ i.quiet;
    unspent = p.spent;
  }

  pub in_step_same : (old new : Journal D) → InStep events old → SameButRoom old new → InStep events new
  in_step_same old new i s = record {
    same = ap (λ (l : List Event). l ++ new.tail) s.lists.durable ∙ ap (λ (l : List Event). old.durable ++ l) s.lists.tail ∙ i.same;
    short = omega (arith, i.short, ap (λ (l : List Event). length (body l)) s.lists.tail, ap length s.lists.tail);
    quiet = s.lists.waiting ∙ i.quiet;
    unspent = s.spent ∙ i.unspent;
  }

pub tail_none : {D : Type 0} (wal : Journal D) → TailOnly wal wal
tail_none wal = record { disk = refl; base = refl; version = refl; seals = refl; durable = refl }

pub tail_more : {D : Type 0} (old mid new : Journal D) → TailOnly old mid → TailOnly mid new → TailOnly old new
tail_more old mid new a b = record {
  disk = b.disk ∙ a.disk;
  base = b.base ∙ a.base;
  version = b.version ∙ a.version;
  seals = b.seals ∙ a.seals;
  durable = b.durable ∙ a.durable;
}
