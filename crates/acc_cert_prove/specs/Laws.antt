-- What is told of a design is one thing, and the points that are told are of open leaves.
use Rattle.std.specs.Prelude.{◌≡◌, ⊤, List, Err}
use Rattle.acc_base.specs.declared.forms.Rel.{Rel}
use Rattle.acc_base.specs.declared.designs.Design.{Design}
use Rattle.acc_base.specs.declared.sequents.Sequent.{Sequent}
use Rattle.acc_elim_points.specs.Points.{Point}
use Rattle.acc_prover.specs.Halt.TheVariants as halt
use Rattle.acc_prover.specs.OpenLeaves.{IsOpenLeaf}
use Rattle.acc_cert_prove.specs.declared.proving.Proving.{Proving}
use Rattle.acc_cert_prove.specs.declared.proving.Proving.TheVariants.{Proved, Open, Wide}
use Rattle.acc_oblig_hints.specs.Hints.{hints_of}
use Rattle.acc_cert_prove.specs.Lines.{searched}
use Rattle.acc_cert_prove.specs.Provings.{Proves}

-- of the same kind, with the same lines; which certificate is made is free
abbrev pub AreAlike : Proving → Proving → Type 0
AreAlike (Proved text) (Proved other) = ⊤
AreAlike (Open text) (Open other) = text.items ≡ other.items
AreAlike (Wide text) (Wide other) = text.items ≡ other.items
AreAlike (Proved text) (Open other) = ⊥
AreAlike (Proved text) (Wide other) = ⊥
AreAlike (Open text) (Proved other) = ⊥
AreAlike (Open text) (Wide other) = ⊥
AreAlike (Wide text) (Proved other) = ⊥
AreAlike (Wide text) (Open other) = ⊥

abbrev pub ProvedOnce : Type 0
ProvedOnce = (d : Design) (p q : Proving) → Proves d p → Proves d q → AreAlike p q

-- where a point is told, it meets all that is known in a leaf of the obligation's search, with a fraction in lowest terms an unknown
abbrev pub PointsMeetLeaves : Type 0
PointsMeetLeaves =
    (d : Design) (q : Sequent) (leaf : List Rel) (point : Point) → searched d q ≡ Err (halt.Open leaf point)
    → IsOpenLeaf q (hints_of d q) leaf point
