-- A replica that is fed piece by piece: where it leads, and what is said of a refusal.
use Rattle.std.proofs.Common.{◌≡◌, ℕ, List, [], ◌++◌, take, drop, Some, refl, sym, ap, subst, ◌∙◌}
use Rattle.std.proofs.Common.{append-nil, append_assoc, take-append-drop}
use Rattle.std.specs.Prelude.{◌≢◌, Err}
use Rattle.acc_base.specs.declared.designs.Design.{Design}
use Rattle.acc_base.specs.Machine.{World}
use Rattle.acc_commands_inputs.specs.Text.{Said}
use Rattle.acc_journalled.specs.declared.answers.Ending.TheVariants.{JournalRefused}
use Rattle.acc_replica.specs.Ends.{Ends}
use Rattle.acc_replica.specs.Replicas.{Replicated, Follows, TellsEnd}
use Rattle.acc_replica.specs.declared.errors.ReplicaError.{ReplicaError}
use Rattle.acc_replica.specs.declared.errors.ReplicaError.TheVariants.{NotJournal, OtherVersion, OtherDesign, Damaged, Past, Unlawful}
use Rattle.acc_replica.specs.declared.errors.ReplicaError.TheVariants.{Differs, Memory}
use Rattle.acc_commands_files.specs.Following.{SaysUnfollowed}

-- where it goes no further for another reason than want of memory, that is the refusal
pub all_refused : (d : Design) (fed : List ℕ) (here : World) (error : ReplicaError) → error ≢ Memory → TellsEnd d fed (Err error) here
    → Ends d fed (Some error) here
all_refused d fed here NotJournal lasts h = h
all_refused d fed here (OtherVersion version) lasts h = h
all_refused d fed here OtherDesign lasts h = h
all_refused d fed here (Damaged place) lasts h = h
all_refused d fed here (Past place) lasts h = h
all_refused d fed here (Unlawful at) lasts h = h
all_refused d fed here (Differs place) lasts h = h
all_refused d fed here Memory lasts h = absurd (lasts refl)

-- ---- pieces

-- the bytes are those that were fed, and these behind them
pub record IsFedUpTo (copy rest : List ℕ) (r : Replicated) : Type 0 where
  pub fed : List ℕ
  pub all : fed ++ rest ≡ copy
  pub follows : Follows fed r

-- a piece more is fed
pub fed_on : (copy rest front behind : List ℕ) (n : ℕ) (old new : Replicated) → front ≡ take n rest → behind ≡ drop n rest
    → ((fed : List ℕ) → Follows fed old → Follows (fed ++ front) new) → IsFedUpTo copy rest old → IsFedUpTo copy behind new
fed_on copy rest front behind n old new front_is behind_is follows h =
    let both : front ++ behind ≡ rest =
    ap (λ (x : List ℕ). x ++ behind) front_is ∙ ap (λ (x : List ℕ). take n rest ++ x) behind_is ∙ take-append-drop n rest in
    record {
      fed = h.fed ++ front;
      all = append_assoc h.fed front behind ∙ ap (λ (x : List ℕ). h.fed ++ x) both ∙ h.all;
      follows = follows h.fed h.follows;
    }

-- and where none is left, all were fed
pub all_fed : (copy rest : List ℕ) (r : Replicated) → rest ≡ [] → IsFedUpTo copy rest r → Follows copy r
all_fed copy rest r none h =
    let same : h.fed ≡ copy = sym (append-nil h.fed) ∙ ap (λ (x : List ℕ). h.fed ++ x) (sym none) ∙ h.all in
    subst (λ (fed : List ℕ). Follows fed r) same h.follows

-- ---- what is said of a refusal

pub unfollowed_ending : (error : ReplicaError) (said : Said) → SaysUnfollowed error said → said.ending ≡ JournalRefused
unfollowed_ending NotJournal said h = h.0
unfollowed_ending (OtherVersion version) said h = h.0
unfollowed_ending OtherDesign said h = h.0
unfollowed_ending (Damaged place) said h = h.0
unfollowed_ending (Past place) said h = h.0
unfollowed_ending (Unlawful at) said h = h.0
unfollowed_ending (Differs place) said h = h.0
unfollowed_ending Memory said h = absurd h
