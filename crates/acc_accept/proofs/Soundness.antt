-- What is accepted is sound.
use Rattle.std.proofs.Common.{◌≡◌, ℕ, ◌<◌, List, length, map, None, Some, ap, ◌∙◌, get_or}
use Rattle.std.specs.Prelude.{Option, slice_get, option_map}
use Rattle.std.proofs.lemmas.Option.{slice_get-map, slice_get-get_or}
use Rattle.acc_base.specs.declared.designs.Design.{Design}
use Rattle.acc_base.specs.declared.sequents.Sequent.{Sequent}
use Rattle.acc_base.specs.Soundness.{IsSound}
use Rattle.acc_base.specs.TrueSequents.{SequentTrue}
use Rattle.acc_axioms.specs.declared.nodes.Proof.{Proof}
use Rattle.acc_axioms.specs.declared.nodes.Cert.{Cert}
use Rattle.acc_proof.proofs.Implied.{proofs_imply}
use Rattle.acc_oblig.specs.Drafts.{Draft}
use Rattle.acc_oblig.specs.Laws.{drafts_of, sequents_of}
use Rattle.acc_oblig.proofs.Theorem.{true_gives_sound}
use Rattle.acc_accept.specs.Accepting.{IsProved, Accepts}

true_by : (d : Design) (q : Sequent) (p : Option Proof) → IsProved d q p → SequentTrue d q
true_by d q None h = absurd h
true_by d q (Some p) h = proofs_imply d q p.nodes h

sequent_at :
    (ds : List Draft) (k : ℕ) (x : Draft) → k < length ds
    → slice_get (map (λ (y : Draft). y.sequent) ds) k ≡ Some (get_or ds k x).sequent
sequent_at ds k x lt =
    slice_get-map (λ (y : Draft). y.sequent) ds k ∙ ap (option_map (λ (y : Draft). y.sequent)) (slice_get-get_or ds k x lt)

pub accepted_is_sound : (d : Design) (c : Cert) → Accepts d c → IsSound d
accepted_is_sound d c a =
    true_gives_sound d a.formed
    (λ k x lt. true_by d (get_or (drafts_of d) k x).sequent (slice_get c.proofs k)
    (a.proved k (get_or (drafts_of d) k x).sequent (sequent_at (drafts_of d) k x lt)))
