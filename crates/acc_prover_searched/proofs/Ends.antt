-- The nodes with which the course of a search ends are a proof; an open leaf is met at its point.
use Rattle.std.proofs.Common.{◌≡◌, Bool, true, false, List, [], ◌∷◌, ◌++◌, length, map, Ok, Err, refl, ap, sym, ◌∙◌, subst}
use Rattle.std.proofs.Common.{append_assoc, append-nil, if◌then◌else◌}
use Rattle.std.proofs.Common.{inl, inr, arith, ℤ, pos}
use Rattle.std.specs.Prelude.{All, IsTrue, ⊤, nat_lt}
use Rattle.std.specs.List.{list_any, Contains}
use lib.Signed.{◌≤ℤ◌}
use Rattle.std.proofs.lemmas.Int.{ints}
use Rattle.std.proofs.lemmas.List.Elements.{All-nil, All-cons, All-head, All-tail, All-contains, Contains-append_left, Contains-push}
use Rattle.acc_base.specs.declared.forms.Lin.{Lin}
use Rattle.acc_base.specs.declared.forms.Form.{Form}
use Rattle.acc_base.specs.declared.forms.Rel.{Rel}
use Rattle.acc_base.specs.declared.designs.Design.{Design}
use Rattle.acc_base.specs.declared.sequents.Sequent.{Sequent}
use Rattle.acc_elim_points.specs.Points.{Point}
use Rattle.acc_elim_readings.specs.Readings.{unknowns_of}
use Rattle.acc_elim_solved.specs.Meetings.{is_met, Meets}
use Rattle.acc_elim_decisions.specs.declared.verdicts.Verdict.TheVariants.{Solved}
use Rattle.acc_elim_decisions.proofs.Shown.{solved_is_met}
use Rattle.acc_axioms.specs.declared.nodes.Node.{Node}
use Rattle.acc_proof.specs.Facts as facts
use Rattle.acc_proof.specs.Proofs.{known_first}
use Rattle.acc_inst.specs.declared.listing.Listed.{Listed}
use Rattle.acc_prover_choices.specs.declared.listing.InstError.TheVariants as listing
use Rattle.acc_inst.specs.declared.making.Instance.{Instance}
use Rattle.acc_inst.specs.Making.{Chosen, instance_of, is_instance_wide}
use Rattle.acc_prover_choices.specs.Parts.{Listing}
use Rattle.acc_inst.specs.Instances.{instances_of}
use Rattle.acc_inst.specs.Lists.{splits_of, listed, lists_of}
use Rattle.acc_inst.proofs.OfHypotheses.{listed_are_of}
use Rattle.acc_prover_course.specs.Halt.TheVariants.{Wide, Open}
use Rattle.acc_base.specs.Computing.{chain}
use Rattle.acc_prover_course.specs.Courses.{Course}
use Rattle.acc_prover_course.specs.Searches.{branch, of_lists, starting, started, course}
use Rattle.acc_prover_searched.specs.OpenLeaves.{Begins, IsDecided, splits_in, instances_in, IsHad, IsOpenLeaf}
use Rattle.acc_prover_searched.specs.Courses.{IsProof}
use Rattle.acc_prover_searched.proofs.Good.{Good, good_weaker}
use Rattle.acc_prover_searched.proofs.Nodes.{Walks, walks_all}
use Rattle.acc_prover_searched.proofs.Instances.{IsListed, all_listed}
use Rattle.acc_prover_searched.proofs.Trying.{Added, added_more, added_one, Tried}
use Rattle.acc_prover_searched.proofs.Closing.{AreDecided, Left, branch_good}
use Rattle.acc_prover_searched.proofs.Clashes.{not_above, not_below}
use Rattle.acc_prover_searched.proofs.Guards.{IsAmong, GuardsAmong, guards_among}
use Rattle.acc_prover_searched.proofs.Showing.{Unshown}
use Rattle.acc_prover_searched.proofs.Solutions.{worth_of, Says, Solution, solution, solved_says}

few_by : (wide many : Bool) (splits : List Form) (insts : List Chosen) (l : Listed)
    → (if wide then Err listing.Wide else (if many then Err listing.Crowded else Ok (record { splits = splits; insts = insts }))) ≡ Ok l
    → (insts ≡ l.insts) × (wide ≡ false) × (splits ≡ l.splits)
few_by true many splits insts l e = absurd (cc)
few_by false true splits insts l e = absurd (cc)
few_by false false splits insts l e = (cc, refl, cc)

-- the instances of lists are of hypotheses that are there, and none has a number that is too large; their guards are among the splits
lists_listed : (q : Sequent) (hints : List Lin) (l : Listed) → lists_of q hints ≡ Ok l
    → All (IsListed q) (map (instance_of q) l.insts) × All (GuardsAmong l.splits) (map (instance_of q) l.insts)
lists_listed q hints l e = by (instances_of q hints) refl e
  where
    by : (o : Listing (List Chosen)) → instances_of q hints ≡ o → chain o (listed q hints) ≡ Ok l
        → All (IsListed q) (map (instance_of q) l.insts) × All (GuardsAmong l.splits) (map (instance_of q) l.insts)
    by (Ok insts) is h =
        let splits = splits_of q hints (map (instance_of q) insts) in
        let few = few_by (list_any (is_instance_wide q) insts) (nat_lt 256 (length splits)) splits insts l h in (
          subst (λ (xs : List Chosen). All (IsListed q) (map (instance_of q) xs)) few.0
              (all_listed q insts (listed_are_of q hints insts is) few.1),
          subst (λ (es : List Form). All (GuardsAmong es) (map (instance_of q) l.insts)) few.2
              (subst (λ (xs : List Chosen). All (GuardsAmong splits) (map (instance_of q) xs)) few.0
              (guards_among q hints (map (instance_of q) insts))),
        )
    by (Err x) is h = absurd (cc)

-- ---- the guards of an instance that a leaf hasn't aren't all true at its point

module _ (leaf : List Rel) (point : Point) (meets : Meets leaf point) (splits : List Form) where
  abbrev here : Solution leaf
  here = solution leaf point meets

  low : (equal : Bool) (n : ℤ) → Says equal n → n ≤ℤ pos 0
  low true n h = omega (arith, ints, h)
  low false n h = h

  is_off : (R : List Rel) → ((r : Rel) → Contains R r → Contains leaf r) → All (IsDecided R) splits → (g : Rel) → IsAmong splits g.form
      → IsTrue (is_met (unknowns_of leaf) point g) → Unshown R g.equal g.form → ⊥
  is_off R inside decided g among met (inl open_) =
      let other = R ++ facts.above_zero g.form ∷ [] in
      let there = solution other open_.0 open_.1 in
      not_above R leaf other inside (λ r h. Contains-append_left R (facts.above_zero g.form ∷ []) r h) here there splits decided g.form
      among
      (low g.equal (worth_of here.D here.v g.form) (solved_says leaf point meets g met)) (Contains-push R (facts.above_zero g.form))
  is_off R inside decided g among met (inr (e, open_)) =
      let other = R ++ facts.below_zero g.form ∷ [] in
      let there = solution other open_.0 open_.1 in
      not_below R leaf other inside (λ r h. Contains-append_left R (facts.below_zero g.form ∷ []) r h) here there splits decided g.form
      among
      (subst (λ (b : Bool). Says b (worth_of here.D here.v g.form)) e (solved_says leaf point meets g met))
      (Contains-push R (facts.below_zero g.form))

  had : (x : Instance) → GuardsAmong splits x → Tried (AreDecided splits) leaf x → IsHad leaf point x
  had x among (inl h) met = h
  had x among (inr (R, inside, decided, (g, at, unshown))) met =
      absurd (is_off R inside decided g (All-contains (λ r. IsAmong splits r.form) x.guards g among at)
      (All-contains (λ r. IsTrue (is_met (unknowns_of leaf) point r)) x.guards g met at) unshown)

  pub all_had : (made : List Instance) → All (GuardsAmong splits) made → All (Tried (AreDecided splits) leaf) made
      → All (IsHad leaf point) made
  all_had [] among tried = All-nil (IsHad leaf point)
  all_had (x ∷ made) among tried =
      All-cons (IsHad leaf point) x made
      (had x (All-head (GuardsAmong splits) x made among) (All-head (Tried (AreDecided splits) leaf) x made tried))
      (all_had made (All-tail (GuardsAmong splits) x made among) (All-tail (Tried (AreDecided splits) leaf) x made tried))

module _ (d : Design) (q : Sequent) where
  begins_grows : (rels more : List Rel) → Begins q rels → Begins q (rels ++ more)
  begins_grows rels more (behind, e) = (behind ++ more, ap (λ x. x ++ more) e ∙ append_assoc (known_first q) behind more)

  started_good : (made : List Instance) (splits : List Form) → All (IsListed q) made
      → Good (Left q made splits) (started d q made splits) (IsProof d q)
  started_good made splits all = by (facts.is_above_wide q.goal) refl
    where
      by : (wide : Bool) → facts.is_above_wide q.goal ≡ wide
          → Good (Left q made splits) (chain (if wide then Err Wide else Ok (facts.above_zero q.goal)) (λ contrary.
          branch d q made splits (starting q contrary, []))) (IsProof d q)
      by true e = tt
      by false e =
          good_weaker (Left q made splits) (branch d q made splits (starting q (facts.above_zero q.goal), []))
          (λ nodes. ⊤ → Walks d q nodes [])
          (IsProof d q)
          (branch_good d q made all splits splits (λ rels insts. Begins q rels × Added made rels insts)
          (λ rels more insts h. (begins_grows rels more h.0, added_more made rels more insts h.1))
          (λ rels insts n x at h. (begins_grows rels (x.rel ∷ []) h.0, added_one made rels insts n x at h.1)) (λ rels insts h. h.1)
          (λ rels insts h decided. (h.0, decided)) ⊤ [] (starting q (facts.above_zero q.goal), []) (λ fine rest. refl)
          (([], sym (append-nil (known_first q))), (λ n x none at. absurd (cc))))
          (λ nodes w. walks_all d q nodes e (w tt))

  pub course_good : (hints : List Lin)
      → Good (Left q (instances_in q (lists_of q hints)) (splits_in (lists_of q hints))) (course d q hints) (IsProof d q)
  course_good hints = by (lists_of q hints) refl
    where
      by : (o : Listing Listed) → lists_of q hints ≡ o
          → Good (Left q (instances_in q o) (splits_in o)) (chain (of_lists o) (λ l. started d q (map (instance_of q) l.insts) l.splits))
          (IsProof d q)
      by (Ok l) e = started_good (map (instance_of q) l.insts) l.splits (lists_listed q hints l e).0
      by (Err listing.Crowded) e = tt
      by (Err listing.Wide) e = tt
      by (Err listing.Memory) e = tt

  -- the nodes with which the search ends are a proof
  pub ended_proof : (hints : List Lin) (nodes : List Node) → course d q hints ≡ Ok nodes → IsProof d q nodes
  ended_proof hints nodes h =
      subst (λ (o : Course (List Node)). Good (Left q (instances_in q (lists_of q hints)) (splits_in (lists_of q hints))) o (IsProof d q)) h
      (course_good hints)

  guards_listed : (hints : List Lin) → All (GuardsAmong (splits_in (lists_of q hints))) (instances_in q (lists_of q hints))
  guards_listed hints = by (lists_of q hints) refl
    where
      by : (o : Listing Listed) → lists_of q hints ≡ o → All (GuardsAmong (splits_in o)) (instances_in q o)
      by (Ok l) e = (lists_listed q hints l e).1
      by (Err x) e = All-nil (GuardsAmong [])

  pub leaf_open : (hints : List Lin) (leaf : List Rel) (point : Point) → course d q hints ≡ Err (Open leaf point)
      → IsOpenLeaf q hints leaf point
  leaf_open hints leaf point h =
      let made = instances_in q (lists_of q hints) in
      let splits = splits_in (lists_of q hints) in
      let left = subst (λ (o : Course (List Node)). Good (Left q made splits) o (IsProof d q)) h (course_good hints) in
      let meets = solved_is_met leaf (Ok (Solved point)) left.0 in
      record {
        begins = left.1;
        decided = left.2;
        had = all_had leaf point meets splits made (guards_listed hints) left.3;
        met = meets;
      }
