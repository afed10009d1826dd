-- What a refusal leaves of the disk.
use Rattle.std.proofs.Common.{◌≡◌, ◌≤◌, ℕ, List, Option, Some, None, sym, subst, ◌∙◌, inl, inr, ⊎_elim}
use Rattle.std.specs.Prelude.{IfSome}
use Rattle.std.proofs.lemmas.Option.{same_Some}
use Rattle.acc_base.specs.declared.tables.Row.{Row}
use Rattle.acc_base.specs.declared.designs.Design.{Design}
use Rattle.acc_base.specs.declared.machines.Event.{Event}
use Rattle.acc_disk.specs.Crashes.{Only, IsCalm}
use Rattle.acc_disk.specs.Moments.{AtAnyMoment}
use Rattle.acc_wal.specs.Journals.{Counts, CountsAll}
use Rattle.acc_wal.specs.declared.items.Seal.{Seal}
use Rattle.acc_wal.proofs.Moments.{weaker, if_some}
use Rattle.acc_wal.proofs.Once.{one_reading, one_of_all}
use Rattle.acc_wal.specs.Attaching.{RefusesOld, LeavesOld, IsOfBytes as IsOfBytesOld}
use Rattle.acc_wal.specs.declared.errors.WalError.{WalError}
use Rattle.acc_wal.specs.declared.errors.WalError.TheVariants as wal
use Rattle.acc_recover.specs.Recoveries.{CountsRecovered, LeavesRecovery}
use Rattle.acc_recover.specs.Refusals.{RefusesHistory, FailsToSettle, refusal_for, IsOfJournal, IsOfBytes, CountsSame, CountsSameAll}
use Rattle.acc_recover.specs.declared.errors.RecoverError.{RecoverError}
use Rattle.acc_recover.specs.declared.errors.RecoverError.TheVariants.{Journal as NotRead, OtherDesign, Unlawful, Differs, Disk, Memory}

calm_by : (told : Option (List ℕ)) (old new : List ℕ → Type 0) → ((file : List ℕ) → Only file old → Only file new) → IsCalm told old →
    IsCalm told new
calm_by None old new so calm = calm
calm_by (Some file) old new so calm = so file calm

-- what was calm is calm again where only the same bytes may have been left
pub calm_again : {D : Type 0} (clock : D → ℕ) (left_since : D → ℕ → List ℕ → Type 0) (told : D → Option (List ℕ))
    (may_leave : D → List ℕ → Type 0) (old new : D) → told new ≡ told old
    → ((file : List ℕ) → Only file (may_leave old) → AtAnyMoment clock left_since old new (λ image. image ≡ file))
    → ((time : ℕ) (image : List ℕ) → time ≤ clock new → may_leave new image → left_since new time image)
    → IsCalm (told old) (may_leave old) → IsCalm (told new) (may_leave new)
calm_again clock left_since told may_leave old new same run now calm =
    subst (λ t. IsCalm t (may_leave new)) (sym same)
    (calm_by (told old) (may_leave old) (may_leave new)
    (λ file only image left. (run file only).each image (now (clock old) image (run file only).later left)) calm)

-- ---- what a journal counts is counted still

pub same_counts : (told told' : Option (List ℕ)) → told' ≡ told → CountsSame told told'
same_counts told told' same file base events is counts now now_is =
    subst (λ f. Counts f base events) (same_Some file now (sym is ∙ sym same ∙ now_is)) counts

-- what was read is what anybody counts
pub read_counts : (told told' : Option (List ℕ)) (base : List ℕ) (events : List Event) → IfSome told (λ file. Counts file base events)
    → ((now : List ℕ) → told' ≡ Some now → Counts now base events) → CountsSame told told'
read_counts told told' base events read then file other more is counts now now_is =
    let one = one_reading file base other events more (if_some told (λ f. Counts f base events) file is read) counts in
    subst (λ b. Counts now b more) one.0 (subst (λ es. Counts now base es) one.1 (then now now_is))

pub same_counts_all : (told told' : Option (List ℕ)) → told' ≡ told → CountsSameAll told told'
same_counts_all told told' same file base version events seals is counts now now_is =
    subst (λ f. CountsAll f base version events seals) (same_Some file now (sym is ∙ sym same ∙ now_is)) counts

pub read_counts_all : (told told' : Option (List ℕ)) (base : List ℕ) (version : ℕ) (events : List Event) (seals : List Seal)
    → IfSome told (λ file. CountsAll file base version events seals)
    → ((now : List ℕ) → told' ≡ Some now → CountsAll now base version events seals) → CountsSameAll told told'
read_counts_all told told' base version events seals read then file other another more others is counts now now_is =
    let one = one_of_all file base other version another events more seals others
    (if_some told (λ f. CountsAll f base version events seals) file is read) counts in
    subst (λ (l : List Seal). CountsAll now other another more l) one.3
    (subst (λ (es : List Event). CountsAll now other another es seals) one.2
    (subst (λ n. CountsAll now other n events seals) one.1
    (subst (λ (b : List ℕ). CountsAll now b version events seals) one.0 (then now now_is))))

-- ---- what a crash leaves

module _ {D : Type 0} (clock : D → ℕ) (left_since : D → ℕ → List ℕ → Type 0) (d : Design) (file : List ℕ) (old new : D) where
  -- attaching alone
  pub leaves_attached : AtAnyMoment clock left_since old new (LeavesOld file)
      → AtAnyMoment clock left_since old new (LeavesRecovery d file)
  leaves_attached run = weaker clock left_since old new (LeavesOld file) (LeavesRecovery d file)
      (λ image. ⊎_elim (λ same. inl same) (λ there. inr (there.0, there.1, there.2, inl there.3))) run

  -- what the file counts, or the recovered history
  pub leaves_counted : (base : List ℕ) (found : List Event) → Counts file base found
      → AtAnyMoment clock left_since old new (CountsRecovered d base found) → AtAnyMoment clock left_since old new (LeavesRecovery d file)
  leaves_counted base found counts run = weaker clock left_since old new (CountsRecovered d base found) (LeavesRecovery d file)
      (λ image there. inr (base, found, counts, there)) run

-- ---- attaching refuses

pub read_refused : (error : WalError) (told : Option (List ℕ)) (fault : Type 0) → RefusesOld error told fault
    → IsOfJournal (refusal_for error) → IsOfBytesOld error
read_refused wal.Exists told fault why of = absurd why
read_refused wal.NotJournal told fault why of = tt
read_refused (wal.OtherVersion version) told fault why of = tt
read_refused (wal.Damaged place) told fault why of = tt
read_refused wal.Disk told fault why of = absurd of
read_refused wal.Spent told fault why of = absurd why
read_refused wal.Memory told fault why of = absurd of

pub bytes_refused : (error : WalError) (told : Option (List ℕ)) (fault : Type 0) → RefusesOld error told fault
    → IsOfBytes (refusal_for error) → IsOfBytesOld error
bytes_refused wal.Exists told fault why of = absurd why
bytes_refused wal.NotJournal told fault why of = tt
bytes_refused (wal.OtherVersion version) told fault why of = tt
bytes_refused (wal.Damaged place) told fault why of = tt
bytes_refused wal.Disk told fault why of = absurd of
bytes_refused wal.Spent told fault why of = absurd why
bytes_refused wal.Memory told fault why of = absurd of

-- ---- what stands behind attaching refuses

pub history_read : (d : Design) (base : List ℕ) (events : List Event) (seals : List Seal) (error : RecoverError) (rows : List Row)
    → RefusesHistory d base events seals error rows → IsOfJournal error → ⊥
history_read d base events seals OtherDesign rows why of = of
history_read d base events seals (Unlawful at) rows why of = of
history_read d base events seals (Differs place) rows why of = of
history_read d base events seals Memory rows why of = of
history_read d base events seals (NotRead error) rows why of = why
history_read d base events seals Disk rows why of = of

pub settle_read : (error : RecoverError) (fault : Type 0) → FailsToSettle error fault → IsOfJournal error → ⊥
settle_read Disk fault why of = of
settle_read Memory fault why of = of
settle_read (NotRead error) fault why of = why
settle_read OtherDesign fault why of = why
settle_read (Unlawful at) fault why of = why
settle_read (Differs place) fault why of = why

pub settle_of_bytes : (error : RecoverError) (fault : Type 0) → FailsToSettle error fault → IsOfBytes error → ⊥
settle_of_bytes Disk fault why of = of
settle_of_bytes Memory fault why of = of
settle_of_bytes (NotRead error) fault why of = why
settle_of_bytes OtherDesign fault why of = why
settle_of_bytes (Unlawful at) fault why of = why
settle_of_bytes (Differs place) fault why of = why
