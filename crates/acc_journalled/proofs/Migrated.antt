-- What making a new journal of an old one comes to.
use Rattle.std.proofs.Common.{◌≡◌, ◌≤◌, ◌<◌, ◌+◌, ◌^◌, inl, inr, ℕ, List, length, Option, Some, None, sym, ap, subst, ◌∙◌}
use Rattle.std.specs.Prelude.{All, IfSome, drop}
use Rattle.acc_base.specs.declared.designs.Design.{Design}
use Rattle.acc_base.specs.declared.machines.Event.{Event}
use Rattle.acc_disk.specs.Crashes.{Only}
use Rattle.acc_disk.specs.Moments.{AtAnyMoment}
use Rattle.acc_lift.specs.Acceptance.{IsAccepted}
use Rattle.acc_wal.specs.Attaching.{IsOfBytes}
use Rattle.acc_wal.specs.Creating.{seals_behind, IsThere, IsOtherFirst, LeavesFull, RefusesNew}
use Rattle.acc_wal.specs.Items.{seal_bytes}
use Rattle.acc_wal.specs.Journals.{CountsAll}
use Rattle.acc_wal.specs.Spellings.{body, Fits}
use Rattle.acc_wal.specs.declared.errors.WalError.{WalError}
use Rattle.acc_wal.specs.declared.errors.WalError.TheVariants as wal
use Rattle.acc_wal.proofs.Moments.{started, weaker}
use Rattle.acc_journalled.specs.declared.answers.Answer.{Answer}
use Rattle.acc_journalled.specs.Making.{SaysNotMade}
use Rattle.acc_journalled.specs.Migrating.{text_to_put, HoldsAll, LeavesMigrated, BeginsWith, Migrates, MigratesJournal}
use Rattle.acc_journalled.specs.Tellings.{Telling}
use Rattle.acc_journalled.proofs.Bounds.{all_fit, all_short, not_empty, base_short}

if_told : (told : Option (List ℕ)) (P Q : List ℕ → Type 0) → ((file : List ℕ) → P file → Q file) → IfSome told P → IfSome told Q
if_told None P Q so h = tt
if_told (Some file) P Q so h = so file h

-- ---- what the new journal begins with

module _ (d : Design) (old base : List ℕ) (history : List Event) (text : Option (List ℕ)) (said : Answer)
    (b : BeginsWith d old base history text said) (events : List Event) (seal : Option (List ℕ)) (same : events ≡ history)
    (put : seal ≡ text) where
  events_are : events ≡ b.last.events
  events_are = same ∙ b.history_is

  text_is : seal ≡ text_to_put b.last
  text_is = put ∙ b.text_is

  pub base_fits : length base < 2 ^ 32
  base_fits = subst (λ (x : List ℕ). length x < 2 ^ 32) (sym b.base_is) (base_short d old b.last b.recovered)

  pub each_fits : IsAccepted d → All Fits events
  each_fits accepted = subst (All Fits) (sym events_are) (all_fit d old b.last accepted b.recovered)

  pub is_some : IsAccepted d → 0 < length events + length (seals_behind (length events) seal)
  is_some accepted =
      subst (λ (o : Option (List ℕ)). 0 < length events + length (seals_behind (length events) o)) (sym text_is)
      (subst (λ (es : List Event). 0 < length es + length (seals_behind (length es) (text_to_put b.last))) (sym events_are)
      (not_empty d old b.last accepted b.recovered))

  pub is_short : IsAccepted d → length old ≤ 2 ^ 26 → length (body events) + seal_bytes (seals_behind (length events) seal) < 2 ^ 32
  is_short accepted short =
      subst (λ (o : Option (List ℕ)). length (body events) + seal_bytes (seals_behind (length events) o) < 2 ^ 32) (sym text_is)
      (subst (λ (es : List Event). length (body es) + seal_bytes (seals_behind (length es) (text_to_put b.last)) < 2 ^ 32) (sym events_are)
      (all_short d old b.last accepted b.recovered short))

  -- ---- it is made

  is_new : (file : List ℕ) → CountsAll file base 2 events (seals_behind (length events) seal) → HoldsAll d b.last file
  is_new file c =
      subst (λ (x : List ℕ). CountsAll file x 2 b.last.events (seals_behind (length b.last.events) (text_to_put b.last))) b.base_is
      (subst (λ (o : Option (List ℕ)). CountsAll file base 2 b.last.events (seals_behind (length b.last.events) o)) text_is
      (subst (λ (es : List Event). CountsAll file base 2 es (seals_behind (length es) seal)) events_are c))

  pub leaves_new : (file image : List ℕ) → LeavesFull file base events (seals_behind (length events) seal) image
      → LeavesMigrated d old file image
  leaves_new file image (inl none) = inl none
  leaves_new file image (inr (inl new)) = inr (inl (b.last, b.recovered, is_new image new))
  leaves_new file image (inr (inr other)) = inr (inr other)

  pub left_new : (file : List ℕ) (told : Option (List ℕ))
      → IfSome told (LeavesFull file base events (seals_behind (length events) seal)) → IfSome told (LeavesMigrated d old file)
  left_new file told h =
      if_told told (LeavesFull file base events (seals_behind (length events) seal)) (LeavesMigrated d old file) (leaves_new file) h

  pub moments_new : {D : Type 0} (clock : D → ℕ) (left_since : D → ℕ → List ℕ → Type 0) (file : List ℕ) (from end : D)
      → AtAnyMoment clock left_since from end (LeavesFull file base events (seals_behind (length events) seal))
      → AtAnyMoment clock left_since from end (LeavesMigrated d old file)
  moments_new clock left_since file from end run =
      weaker clock left_since from end (LeavesFull file base events (seals_behind (length events) seal)) (LeavesMigrated d old file)
      (leaves_new file) run

  pub migrates : (told told' made_as : Option (List ℕ)) (t : Telling) → IfSome told (λ file. ¬ IsThere file) → told' ≡ made_as
      → IfSome made_as (λ file. CountsAll file base 2 events (seals_behind (length events) seal)) → t.ending ≡ said.ending
      → t.text ≡ said.text.items → t.history ≡ history → t.settled ≡ length history → Migrates d old told told' t
  migrates told told' made_as t fresh kept made ending says is all = record {
    last = b.last;
    recovered = b.recovered;
    fresh = fresh;
    holds =
        subst (λ (o : Option (List ℕ)). IfSome o (HoldsAll d b.last)) (sym kept)
        (if_told made_as (λ file. CountsAll file base 2 events (seals_behind (length events) seal)) (HoldsAll d b.last) is_new made);
    says = (ending ∙ b.says.0, says ∙ b.says.1, is ∙ b.history_is, all ∙ ap length b.history_is);
  }

  -- ---- it isn't made

  pub not_migrated : (error : WalError) (told told' : Option (List ℕ)) (fault : Type 0) (t : Telling) → RefusesNew error told fault
      → (IsOfBytes error → told' ≡ told) → SaysNotMade error t → MigratesJournal d old told told' fault t
  not_migrated wal.Exists told told' fault t why kept says =
      inr (inr (inl (record {
        last = b.last;
        recovered = b.recovered;
        finds = record { there = why; same = kept tt; says = says };
      })))
  not_migrated wal.Disk told told' fault t why kept says = inr (inr (inr (record { failed = why; says = says })))
  not_migrated wal.NotJournal told told' fault t why kept says = absurd says
  not_migrated (wal.OtherVersion version) told told' fault t why kept says = absurd says
  not_migrated (wal.Damaged place) told told' fault t why kept says = absurd says
  not_migrated wal.Spent told told' fault t why kept says = absurd says
  not_migrated wal.Memory told told' fault t why kept says = absurd says

-- ---- the disk was asked nothing

same_bytes : (file image : List ℕ) → image ≡ file → IsOtherFirst file image
same_bytes file image is = (ap length is, ap (λ (l : List ℕ). drop 1 l) is)

pub leaves_bytes : {D : Type 0} (clock : D → ℕ) (left_since : D → ℕ → List ℕ → Type 0) (may_leave : List ℕ → Type 0) (d : Design)
    (old file : List ℕ) (disk end : D) → end ≡ disk → ((image : List ℕ) → left_since disk (clock disk) image → may_leave image)
    → Only file may_leave → AtAnyMoment clock left_since disk end (LeavesMigrated d old file)
leaves_bytes clock left_since may_leave d old file disk end same only_now only =
    subst (λ x. AtAnyMoment clock left_since disk x (LeavesMigrated d old file)) (sym same)
    (started clock left_since disk (LeavesMigrated d old file)
    (λ image left. inr (inr (same_bytes file image (only image (only_now image left))))))
