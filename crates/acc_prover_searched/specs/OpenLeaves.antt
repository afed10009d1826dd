-- What an open leaf is.
use Rattle.std.specs.Prelude.{◌≡◌, ◌⊎◌, All, IsTrue, List, [], ◌++◌, map, Ok, Err}
use Rattle.std.specs.List.{Contains}
use Rattle.acc_base.specs.declared.forms.Lin.{Lin}
use Rattle.acc_base.specs.declared.forms.Form.{Form}
use Rattle.acc_base.specs.declared.forms.Rel.{Rel}
use Rattle.acc_base.specs.declared.sequents.Sequent.{Sequent}
use Rattle.acc_elim_points.specs.Points.{Point}
use Rattle.acc_elim_readings.specs.Readings.{unknowns_of}
use Rattle.acc_elim_solved.specs.Meetings.{is_met, Meets}
use Rattle.acc_base.specs.Forms.{is_zero}
use Rattle.acc_proof.specs.Facts.{below_zero, above_zero}
use Rattle.acc_proof.specs.Proofs.{known_first}
use Rattle.acc_inst.specs.declared.listing.Listed.{Listed}
use Rattle.acc_inst.specs.declared.making.Instance.{Instance}
use Rattle.acc_inst.specs.Making.{instance_of}
use Rattle.acc_prover_choices.specs.Parts.{Listing}
use Rattle.acc_inst.specs.Lists.{lists_of}

-- relations begin with what is known at first: those of the sequent, and that its goal is above 0
abbrev pub Begins : Sequent → List Rel → Type 0
Begins q rels = (more : List Rel) × (rels ≡ known_first q ++ more)

-- one branch of a split is among relations: the form is below 0, or it is 0, or it is above 0
abbrev pub IsDecided : List Rel → Form → Type 0
IsDecided rels e = Contains rels (below_zero e) ⊎ (Contains rels (is_zero e) ⊎ Contains rels (above_zero e))

abbrev pub splits_in : Listing Listed → List Form
splits_in (Ok l) = l.splits
splits_in (Err e) = []

abbrev pub instances_in : Sequent → Listing Listed → List Instance
instances_in q (Ok l) = map (instance_of q) l.insts
instances_in q (Err e) = []

-- where its guards are true at a point, the relation of an instance is among relations
abbrev pub IsHad : List Rel → Point → Instance → Type 0
IsHad rels point x = All (λ g. IsTrue (is_met (unknowns_of rels) point g)) x.guards → Contains rels x.rel

-- it begins so, each split of the lists is decided in it, it has the relation of each instance whose guards are true at its point, and the
-- point meets all of it
pub record IsOpenLeaf (q : Sequent) (hints : List Lin) (leaf : List Rel) (point : Point) : Type 0 where
  pub begins : Begins q leaf
  pub decided : All (IsDecided leaf) (splits_in (lists_of q hints))
  pub had : All (IsHad leaf point) (instances_in q (lists_of q hints))
  pub met : Meets leaf point
