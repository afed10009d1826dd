-- One thing is said of `follow`.
use Rattle.std.proofs.Common.{◌≡◌, ℕ, List, inl, inr, subst}
use Rattle.acc_base.specs.declared.designs.Design.{Design}
use Rattle.acc_commands_files.specs.Following.{FollowsCertified, FollowsFiles}
use Rattle.acc_commands_files.proofs.OneFollow.{one_follow}
use Rattle.acc_commands_journals.specs.Text.{Said}
use Rattle.acc_commands_journals.proofs.OneDesign.{one_design, one_refusal, formed_or_refused}
use Rattle.acc_commands.proofs.OneRun.{one_certificate_refusal, accepted_or_refused}

one_by_certificate : (d : Design) (certificate copy : List ℕ) (a b : Said) → FollowsCertified d certificate copy a
    → FollowsCertified d certificate copy b → a ≡ b
one_by_certificate d certificate copy a b (inl h) (inl k) = one_certificate_refusal d certificate a b h k
one_by_certificate d certificate copy a b (inl h) (inr k) = absurd (accepted_or_refused d certificate a k.accepted h)
one_by_certificate d certificate copy a b (inr h) (inl k) = absurd (accepted_or_refused d certificate b h.accepted k)
one_by_certificate d certificate copy a b (inr h) (inr k) = one_follow d copy a b h.follows k.follows

pub one_follow_of : (design certificate copy : List ℕ) (a b : Said) → FollowsFiles design certificate copy a
    → FollowsFiles design certificate copy b → a ≡ b
one_follow_of design certificate copy a b (inl h) (inl k) = one_refusal design a b h k
one_follow_of design certificate copy a b (inl h) (inr k) = absurd (formed_or_refused design k.d a k.is_text k.formed h)
one_follow_of design certificate copy a b (inr h) (inl k) = absurd (formed_or_refused design h.d b h.is_text h.formed k)
one_follow_of design certificate copy a b (inr h) (inr k) =
    one_by_certificate k.d certificate copy a b
    (subst (λ (d : Design). FollowsCertified d certificate copy a) (one_design design h.d k.d h.is_text k.is_text) h.says) k.says
