-- `follow` says one thing of a design's journal.
use Rattle.std.proofs.Common.{◌≡◌, ℕ, List, Option, None, Some, refl, subst}
use Rattle.acc_base.specs.declared.designs.Design.{Design}
use Rattle.acc_base.specs.Machine.{World}
use Rattle.acc_commands_inputs.specs.Text.{Said}
use Rattle.acc_commands_inputs.proofs.OneDesign.{said_same}
use Rattle.acc_journalled.specs.declared.answers.Ending.TheVariants.{Done, JournalRefused}
use Rattle.acc_replica.specs.declared.errors.ReplicaError.{ReplicaError}
use Rattle.acc_replica.specs.declared.errors.ReplicaError.TheVariants.{NotJournal, OtherVersion, OtherDesign, Damaged, Past, Unlawful}
use Rattle.acc_replica.specs.declared.errors.ReplicaError.TheVariants.{Differs, Memory}
use Rattle.acc_replica.proofs.OneEnd.{one_end}
use Rattle.acc_commands_files.specs.Following.{followed_text, SaysUnfollowed, SaysEnd, FollowsCopy}
use Rattle.acc_commands_files.proofs.OneAudit.{alone_same}

one_unfollowed : (error : ReplicaError) (a b : Said) → SaysUnfollowed error a → SaysUnfollowed error b → a ≡ b
one_unfollowed NotJournal a b h k = alone_same _ _ a b h k
one_unfollowed (OtherVersion version) a b h k = alone_same _ _ a b h k
one_unfollowed OtherDesign a b h k = alone_same _ _ a b h k
one_unfollowed (Damaged place) a b h k = alone_same _ _ a b h k
one_unfollowed (Past place) a b h k = said_same JournalRefused _ _ a b refl h k
one_unfollowed (Unlawful at) a b h k = alone_same _ _ a b h k
one_unfollowed (Differs place) a b h k = alone_same _ _ a b h k
one_unfollowed Memory a b h k = absurd h

one_end_said : (d : Design) (here : World) (refused : Option ReplicaError) (a b : Said) → SaysEnd d here refused a
    → SaysEnd d here refused b → a ≡ b
one_end_said d here None a b h k = said_same Done (followed_text d here) (followed_text d here) a b refl h k
one_end_said d here (Some error) a b h k = one_unfollowed error a b h k

pub one_follow : (d : Design) (copy : List ℕ) (a b : Said) → FollowsCopy d copy a → FollowsCopy d copy b → a ≡ b
one_follow d copy a b h k =
    let same = one_end d copy h.refused k.refused h.here k.here h.ends k.ends in
    one_end_said d k.here k.refused a b
    (subst (λ (w : World). SaysEnd d w k.refused a) same.1 (subst (λ (r : Option ReplicaError). SaysEnd d h.here r a) same.0 h.says)) k.says
