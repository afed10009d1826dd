-- The nodes of a search that closes are a proof, and what is known in an open leaf.
use Rattle.std.proofs.Common.{◌≡◌, ℕ, ◌+◌, Bool, true, false, List, [], ◌∷◌, ◌++◌, map, Option, Some, None, Ok, Err, refl, ap}
use Rattle.std.proofs.Common.{◌∙◌}
use Rattle.std.proofs.Common.{if◌then◌else◌, inl, inr}
use Rattle.std.proofs.Common.{suc, subst, arith}
use Rattle.std.specs.Prelude.{All, MatchOption, ◌||◌, ⊤, slice_get}
use Rattle.std.specs.List.{list_any}
use Rattle.std.proofs.lemmas.List.Elements.{All-nil, All-cons, All-head, All-tail, Contains-append_left}
use Rattle.acc_base.specs.declared.forms.Form.{Form}
use Rattle.acc_base.specs.declared.forms.Rel.{Rel}
use Rattle.acc_base.specs.declared.designs.Design.{Design}
use Rattle.acc_base.specs.declared.sequents.Sequent.{Sequent}
use Rattle.acc_farkas.specs.declared.refuting.Mults.{Mults}
use Rattle.acc_elim_points.specs.Points.{Point}
use Rattle.acc_elim_readings.specs.Readings.{unknowns_of}
use Rattle.acc_elim_decisions.specs.declared.verdicts.Verdict.{Verdict}
use Rattle.acc_elim_decisions.specs.declared.verdicts.Verdict.TheVariants.{Refuted, Solved}
use Rattle.acc_elim_decisions.specs.Decisions.{decision}
use Rattle.acc_axioms.specs.declared.nodes.Node.{Node}
use Rattle.acc_axioms.specs.declared.nodes.Node.TheVariants.{Split, Axiom, Inst, Leaf}
use Rattle.acc_axioms.specs.declared.nodes.Schema.{Schema}
use Rattle.acc_base.specs.Forms.{is_zero}
use Rattle.acc_axioms.specs.Axioms.{axiom_of}
use Rattle.acc_proof.specs.Checked.{Gives, Fails, TooWide, and_then}
use Rattle.acc_proof.specs.Facts as facts
use Rattle.acc_proof.specs.Facts.{refuted, used_up, all_shown}
use Rattle.acc_proof.specs.Proofs.{node_of, sure, after_facts}
use Rattle.acc_inst.specs.declared.making.Instance.{Instance}
use Rattle.acc_prover_course.specs.Halt.TheVariants.{Wide}
use Rattle.acc_axioms.specs.declared.kinds.AxiomKind.{AxiomKind}
use Rattle.acc_base.specs.Computing.{chain, steps}
use Rattle.acc_prover_course.specs.Courses.{Course}
use Rattle.acc_prover_course.specs.Known.{State, verdict, shows_all}
use Rattle.acc_prover_candidates.specs.Candidates.{candidates}
use Rattle.acc_prover_candidates.specs.Kinds.{kinds}
use Rattle.acc_axioms.specs.SchemaEquality.{schema_eq}
use Rattle.acc_prover_course.specs.AxiomPasses.{with_axiom, try_demand, try_axiom, try_kind, axioms_pass}
use Rattle.acc_prover_course.specs.Passes.{is_place, with_instance, try_instance, try_next, instances_pass, passes}
use Rattle.acc_prover_course.specs.Searches.{knowing, ended, leaf_end, split_end, three, tried, closing_by, closing, branch}
use Rattle.acc_prover_searched.specs.OpenLeaves.{Begins, IsDecided}
use Rattle.acc_prover_searched.proofs.Good.{Leaf as AtLeaf, Good, good_chain, good_weaker, good_steps}
use Rattle.acc_prover_searched.proofs.Showing.{verdict_good, refuted_by, UnshownAny, ShownBy, shown_good}
use Rattle.acc_prover_searched.proofs.Nodes.{Walks, walks_on}
use Rattle.acc_prover_searched.proofs.Instances.{IsListed, instance_gives}
use Rattle.acc_prover_searched.proofs.Trying.{last_there, Added, Tried, tried_more, all_tried_more}

decided_on : (rels more : List Rel) (e : Form) → IsDecided rels e → IsDecided (rels ++ more) e
decided_on rels more e (inl h) = inl (Contains-append_left rels more (facts.below_zero e) h)
decided_on rels more e (inr (inl h)) = inr (inl (Contains-append_left rels more (is_zero e) h))
decided_on rels more e (inr (inr h)) = inr (inr (Contains-append_left rels more (facts.above_zero e) h))

pub good_if : {A : Type 0} (Q : AtLeaf) (b : Bool) (x : A) (o : Course A) (P : A → Type 0) → P x → Good Q o P
    → Good Q (if b then Ok x else o) P
good_if Q true x o P p h = p
good_if Q false x o P p h = h

-- ---- what is kept on the way

abbrev pub Keeping : Type 1
Keeping = List Rel → List ℕ → Type 0

abbrev pub More : Keeping → Type 0
More K = (rels more : List Rel) (insts : List ℕ) → K rels insts → K (rels ++ more) insts

abbrev pub One : List Instance → Keeping → Type 0
One made K =
    (rels : List Rel) (insts : List ℕ) (i : ℕ) (x : Instance) → slice_get made i ≡ Some x → K rels insts
    → K (rels ++ x.rel ∷ []) (insts ++ i ∷ [])

-- Fine: the splits around have no number that is too large, else there are no nodes
abbrev pub Holds : Design → Sequent → Type 0 → List (List Rel) → Keeping → State → Type 0
Holds d q Fine open_ K s = (Fine → Walks d q s.1 (s.0.rels ∷ open_)) × K s.0.rels s.0.insts

module _ (d : Design) (q : Sequent) (Q : AtLeaf) (Fine : Type 0) (open_ : List (List Rel)) (made : List Instance)
    (E : List Rel → Type 0) where
  instance_good : (K : Keeping) → More K → One made K → ((rels : List Rel) (insts : List ℕ) → K rels insts → E rels)
      → ((rels : List Rel) (insts : List ℕ) → K rels insts → Added made rels insts)
      → (s : State) (i : ℕ) (x : Instance) → IsListed q x → slice_get made i ≡ Some x → Holds d q Fine open_ K s
      → Good Q (try_instance s i x) (λ t. Holds d q Fine open_ K t × Tried E t.0.rels x)
  instance_good K more one known added s i x listed at h = by (list_any (is_place i) s.0.insts) refl
    where
      after : (o : Option (List Mults)) → MatchOption o (UnshownAny s.0.rels x.guards) (ShownBy Q s.0.rels x.guards)
          → Holds d q Fine open_ K (with_instance s i x o) × Tried E (with_instance s i x o).0.rels x
      after None k = (h, inr (s.0.rels, λ r c. c, known s.0.rels s.0.insts h.1, k))
      after (Some ms) k = (
        (
          λ fine. walks_on d q s.1 (Inst x.hypothesis x.values ms) s.0.rels open_ ((x.rel ∷ []) ∷ []) (h.0 fine)
              (instance_gives d q s.0.rels x ms listed k),
          one s.0.rels s.0.insts i x at h.1,
        ),
        inl (last_there s.0.rels x.rel),
      )

      by : (b : Bool) → list_any (is_place i) s.0.insts ≡ b
          → Good Q (if b then Ok s else chain (shows_all s.0.rels [] x.guards) (λ o. Ok (with_instance s i x o)))
          (λ t. Holds d q Fine open_ K t × Tried E t.0.rels x)
      by true e = (h, inl (added s.0.rels s.0.insts h.1 i x e at))
      by false e =
          good_chain Q (shows_all s.0.rels [] x.guards) _
          (λ o. MatchOption o (UnshownAny s.0.rels x.guards) (ShownBy Q s.0.rels x.guards))
          (λ t. Holds d q Fine open_ K t × Tried E t.0.rels x) (shown_good Q s.0.rels x.guards) (λ o k. after o k)

  -- items of a list that stand in another from a place on
  abbrev From : List Instance → ℕ → Type 0
  From rest n = (k : ℕ) (x : Instance) → slice_get rest k ≡ Some x → slice_get made (n + k) ≡ Some x

  next_good : (rest : List Instance) → All (IsListed q) rest → (K : Keeping) → More K → One made K
      → ((rels : List Rel) (insts : List ℕ) → K rels insts → E rels)
      → ((rels : List Rel) (insts : List ℕ) → K rels insts → Added made rels insts)
      → (t : ℕ × State) → From rest t.0 → Holds d q Fine open_ K t.1
      → Good Q (steps try_next t rest) (λ u. Holds d q Fine open_ K u.1 × All (Tried E u.1.0.rels) rest)
  next_good [] all K more one known added t from h = (h, All-nil (Tried E t.1.0.rels))
  next_good (x ∷ rest) all K more one known added t from h =
      good_chain Q (try_next t x) (λ u. steps try_next u rest)
      (λ u. (u.0 ≡ t.0 + 1) × Holds d q Fine open_ K u.1 × Tried E u.1.0.rels x)
      (λ u. Holds d q Fine open_ K u.1 × All (Tried E u.1.0.rels) (x ∷ rest))
      (good_chain Q (try_instance t.1 t.0 x) (λ s. Ok (t.0 + 1, s)) (λ s. Holds d q Fine open_ K s × Tried E s.0.rels x)
      (λ u. (u.0 ≡ t.0 + 1) × Holds d q Fine open_ K u.1 × Tried E u.1.0.rels x)
      (instance_good K more one known added t.1 t.0 x (All-head (IsListed q) x rest all) first h) (λ s k. (refl, k.0, k.1)))
      (λ u k. later (next_good rest (All-tail (IsListed q) x rest all)) u k)
    where
      first : slice_get made t.0 ≡ Some x
      first = let same : t.0 + 0 ≡ t.0 = omega arith in subst (λ (n : ℕ). slice_get made n ≡ Some x) same (from 0 x refl)

      later : ((K : Keeping) → More K → One made K → ((rels : List Rel) (insts : List ℕ) → K rels insts → E rels)
          → ((rels : List Rel) (insts : List ℕ) → K rels insts → Added made rels insts)
          → (u : ℕ × State) → From rest u.0 → Holds d q Fine open_ K u.1
          → Good Q (steps try_next u rest) (λ w. Holds d q Fine open_ K w.1 × All (Tried E w.1.0.rels) rest))
          → (u : ℕ × State) → (u.0 ≡ t.0 + 1) × Holds d q Fine open_ K u.1 × Tried E u.1.0.rels x
          → Good Q (steps try_next u rest) (λ w. Holds d q Fine open_ K w.1 × All (Tried E w.1.0.rels) (x ∷ rest))
      later go u k =
          good_weaker Q (steps try_next u rest)
          (λ w. Holds d q Fine open_ (λ rels insts. K rels insts × Tried E rels x) w.1 × All (Tried E w.1.0.rels) rest)
          (λ w. Holds d q Fine open_ K w.1 × All (Tried E w.1.0.rels) (x ∷ rest))
          (go (λ rels insts. K rels insts × Tried E rels x)
          (λ rels less insts h. (more rels less insts h.0, tried_more E rels less x h.1))
          (λ rels insts i y at h. (one rels insts i y at h.0, tried_more E rels (y.rel ∷ []) x h.1))
          (λ rels insts h. known rels insts h.0) (λ rels insts h. added rels insts h.0) u
          (λ n y at. next_from n y at)
          (k.1.0, (k.1.1, k.2)))
          (λ w r. ((r.0.0, r.0.1.0), All-cons (Tried E w.1.0.rels) x rest r.0.1.1 r.1))
        where
          next_from : From rest u.0
          next_from n y at =
              let place : t.0 + suc n ≡ u.0 + n = omega (arith, k.0) in
              subst (λ (m : ℕ). slice_get made m ≡ Some y) place (from (suc n) y at)

  instances_good : All (IsListed q) made → (K : Keeping) → More K → One made K
      → ((rels : List Rel) (insts : List ℕ) → K rels insts → E rels)
      → ((rels : List Rel) (insts : List ℕ) → K rels insts → Added made rels insts)
      → (s : State) → Holds d q Fine open_ K s
      → Good Q (instances_pass made s) (λ t. Holds d q Fine open_ K t × All (Tried E t.0.rels) made)
  instances_good all K more one known added s h =
      good_chain Q (steps try_next (0, s) made) (λ t. Ok t.1)
      (λ u. Holds d q Fine open_ K u.1 × All (Tried E u.1.0.rels) made)
      (λ t. Holds d q Fine open_ K t × All (Tried E t.0.rels) made)
      (next_good made all K more one known added (0, s) (λ k x at. from_first k x at) h) (λ u k. k)
    where
      from_first : From made 0
      from_first k x at =
          let same : k ≡ 0 + k = omega arith in
          subst (λ (n : ℕ). slice_get made n ≡ Some x) same at

  module _ (K : Keeping) (more : More K) where
    demand_good : (s : State) (a : Schema) (may : Bool) → (axiom_of d q a).may ≡ may → Holds d q Fine open_ K s
        → Good Q (if may then chain (shows_all s.0.rels [] (axiom_of d q a).facts)
        (λ o. Ok (with_axiom s a (axiom_of d q a).added o)) else Ok s) (Holds d q Fine open_ K)
    demand_good s a false e h = h
    demand_good s a true e h =
        good_chain Q (shows_all s.0.rels [] (axiom_of d q a).facts) _
        (λ o. MatchOption o (UnshownAny s.0.rels (axiom_of d q a).facts) (ShownBy Q s.0.rels (axiom_of d q a).facts))
        (Holds d q Fine open_ K) (shown_good Q s.0.rels (axiom_of d q a).facts) (λ o k. by o k)
      where
        gives : (ms : List Mults) → ShownBy Q s.0.rels (axiom_of d q a).facts ms
            → node_of d q s.0.rels (Axiom a ms) ≡ Gives ((axiom_of d q a).added ∷ [])
        gives ms k =
            ap (λ b. if b then after_facts s.0.rels (map sure (axiom_of d q a).facts) ms (Gives ((axiom_of d q a).added ∷ [])) else Fails) e
            ∙ ap (and_then (used_up (Gives ((axiom_of d q a).added ∷ [])))) k

        by : (o : Option (List Mults))
            → MatchOption o (UnshownAny s.0.rels (axiom_of d q a).facts) (ShownBy Q s.0.rels (axiom_of d q a).facts)
            → Holds d q Fine open_ K (with_axiom s a (axiom_of d q a).added o)
        by None k = h
        by (Some ms) k = (
          λ fine. walks_on d q s.1 (Axiom a ms) s.0.rels open_ ((axiom_of d q a).added ∷ []) (h.0 fine) (gives ms k),
          more s.0.rels (axiom_of d q a).added s.0.insts h.1,
        )

    axiom_good : (s : State) (a : Schema) → Holds d q Fine open_ K s → Good Q (try_axiom d q s a) (Holds d q Fine open_ K)
    axiom_good s a h =
        good_if Q (list_any (schema_eq a) s.0.axioms) s (try_demand s a (axiom_of d q a)) (Holds d q Fine open_ K) h
        (demand_good s a (axiom_of d q a).may refl h)

    kind_good : (s : State) (kind : AxiomKind) → Holds d q Fine open_ K s → Good Q (try_kind d q s kind) (Holds d q Fine open_ K)
    kind_good s kind h =
        good_steps Q (try_axiom d q) (Holds d q Fine open_ K) axiom_good (candidates (unknowns_of s.0.rels) kind) s h

    axioms_good : (s : State) → Holds d q Fine open_ K s → Good Q (axioms_pass d q s) (Holds d q Fine open_ K)
    axioms_good s h = good_steps Q (try_kind d q) (Holds d q Fine open_ K) kind_good kinds s h

  -- closed, or a point where what is known holds
  abbrev pub Closed : Keeping → State × Option Point → Type 0
  Closed K (s, None) = Fine → Walks d q s.1 open_
  Closed K (s, Some point) = Holds d q Fine open_ K s × (decision s.0.rels ≡ Ok (Solved point))

  leaf_gives : (known : List Rel) (ms : Mults) → decision known ≡ Ok (Refuted ms) → node_of d q known (Leaf ms) ≡ Gives []
  leaf_gives known ms e = ap (and_then (used_up (Gives []))) (refuted_by Q known ms e [])

  ended_good : (K : Keeping) (s : State) (v : Verdict) → decision s.0.rels ≡ Ok v → Holds d q Fine open_ K s → Closed K (ended s v)
  ended_good K s (Refuted ms) e h =
      λ fine. walks_on d q s.1 (Leaf ms) s.0.rels open_ [] (h.0 fine) (leaf_gives s.0.rels ms e)
  ended_good K s (Solved point) e h = (h, e)

  -- and the instances were tried
  abbrev pub With : Keeping → Keeping
  With K rels insts = K rels insts × All (Tried E rels) made

  module _ (all : All (IsListed q) made) (K : Keeping) (more : More K) (one : One made K)
      (known : (rels : List Rel) (insts : List ℕ) → K rels insts → E rels)
      (added : (rels : List Rel) (insts : List ℕ) → K rels insts → Added made rels insts) where
    passes_good : (s : State) → Holds d q Fine open_ K s → Good Q (passes d q made s) (Holds d q Fine open_ (With K))
    passes_good s h =
        good_chain Q (instances_pass made s) (axioms_pass d q) (λ t. Holds d q Fine open_ K t × All (Tried E t.0.rels) made)
        (Holds d q Fine open_ (With K)) (instances_good all K more one known added s h)
        (λ t k. axioms_good (With K) (λ rels less insts w. (more rels less insts w.0, all_tried_more E made rels less w.1)) t
        (k.0.0, (k.0.1, k.1)))

    tried_good : (s : State) → Holds d q Fine open_ K s → Good Q (tried d q made s) (Closed (With K))
    tried_good s h =
        good_chain Q (passes d q made s) _ (Holds d q Fine open_ (With K)) (Closed (With K)) (passes_good s h) (λ t k.
        good_chain Q (verdict t.0.rels) _ (λ v. decision t.0.rels ≡ Ok v) (Closed (With K)) (verdict_good Q t.0.rels)
        (λ v e. ended_good (With K) t v e k))

    pub closing_good : (s : State) → Holds d q Fine open_ K s → Good Q (closing d q made s) (Closed (With K))
    closing_good s h =
        good_chain Q (verdict s.0.rels) (closing_by d q made s) (λ v. decision s.0.rels ≡ Ok v) (Closed (With K))
        (verdict_good Q s.0.rels) (λ v e. by v e)
      where
        by : (v : Verdict) → decision s.0.rels ≡ Ok v → Good Q (closing_by d q made s v) (Closed (With K))
        by (Refuted ms) e =
            λ fine. walks_on d q s.1 (Leaf ms) s.0.rels open_ [] (h.0 fine) (leaf_gives s.0.rels ms e)
        by (Solved point) e = tried_good s h

-- ---- branches

abbrev pub AreDecided : List Form → List Rel → Type 0
AreDecided splits rels = All (IsDecided rels) splits

-- what is known in an open leaf
abbrev pub Left : Sequent → List Instance → List Form → List Rel → Point → Type 0
Left q made splits rels point =
    (decision rels ≡ Ok (Solved point)) × Begins q rels × AreDecided splits rels × All (Tried (AreDecided splits) rels) made

module _ (d : Design) (q : Sequent) (made : List Instance) (all : All (IsListed q) made) (splits : List Form) where
  abbrev Ends : List Form → Keeping → Type 0
  Ends es K = (rels : List Rel) (insts : List ℕ) → K rels insts → All (IsDecided rels) es → Begins q rels × AreDecided splits rels

  abbrev Adds : Keeping → Type 0
  Adds K = (rels : List Rel) (insts : List ℕ) → K rels insts → Added made rels insts

  abbrev BranchGood : List Form → Type 1
  BranchGood es =
      (K : Keeping) → More K → One made K → Adds K → Ends es K → (Fine : Type 0) (open_ : List (List Rel)) (s : State)
      → (Fine → Walks d q s.1 (s.0.rels ∷ open_)) → K s.0.rels s.0.insts
      → Good (Left q made splits) (branch d q made es s) (λ nodes. Fine → Walks d q nodes open_)

  abbrev Deciding : Keeping → Form → Keeping
  Deciding K e rels insts = K rels insts × IsDecided rels e

  split_gives : (known : List Rel) (e : Form) → facts.is_below_wide e ≡ false → facts.is_above_wide e ≡ false
      → node_of d q known (Split e) ≡ Gives ((facts.below_zero e ∷ []) ∷ (is_zero e ∷ []) ∷ (facts.above_zero e ∷ []) ∷ [])
  split_gives known e low high =
      let off : (facts.is_below_wide e || facts.is_above_wide e) ≡ false = cc in
      ap (λ b. if b then TooWide else Gives ((facts.below_zero e ∷ []) ∷ (is_zero e ∷ []) ∷ (facts.above_zero e ∷ []) ∷ [])) off

  abbrev three_by : (State → Course (List Node)) → Form → Bool → Bool → State → Course (List Node)
  three_by go e low high s =
      chain (chain (chain (if low then Err Wide else Ok (facts.below_zero e)) (λ r. Ok (knowing s.0 r))) (λ below.
      go (below, s.1 ++ Split e ∷ []))) (λ nodes.
      chain (go (knowing s.0 (is_zero e), nodes)) (λ more.
      chain (chain (if high then Err Wide else Ok (facts.above_zero e)) (λ r. Ok (knowing s.0 r))) (λ above. go (above, more))))

  module _ (e : Form) (es : List Form) (rest : BranchGood es) (K : Keeping) (more : More K) (one : One made K) (adds : Adds K)
      (ends : Ends (e ∷ es) K) (Fine : Type 0) (open_ : List (List Rel)) (s : State) (known : K s.0.rels s.0.insts) where
    go : (F : Type 0) (o : List (List Rel)) (r : Rel) (nodes : List Node) → IsDecided (s.0.rels ++ r ∷ []) e
        → (F → Walks d q nodes ((s.0.rels ++ r ∷ []) ∷ o))
        → Good (Left q made splits) (branch d q made es (knowing s.0 r, nodes)) (λ more. F → Walks d q more o)
    go F o r nodes decided walks =
        rest (Deciding K e) (λ rels less insts h. (more rels less insts h.0, decided_on rels less e h.1))
        (λ rels insts i x at h. (one rels insts i x at h.0, decided_on rels (x.rel ∷ []) e h.1)) (λ rels insts h. adds rels insts h.0)
        (λ rels insts h others. ends rels insts h.0 (All-cons (IsDecided rels) e es h.1 others)) F o (knowing s.0 r, nodes) walks
        (more s.0.rels (r ∷ []) s.0.insts known, decided)

    is_low : IsDecided (s.0.rels ++ facts.below_zero e ∷ []) e
    is_low = inl (last_there s.0.rels (facts.below_zero e))

    is_none : IsDecided (s.0.rels ++ is_zero e ∷ []) e
    is_none = inr (inl (last_there s.0.rels (is_zero e)))

    is_high : IsDecided (s.0.rels ++ facts.above_zero e ∷ []) e
    is_high = inr (inr (last_there s.0.rels (facts.above_zero e)))

    three_good : (low high : Bool) → facts.is_below_wide e ≡ low → facts.is_above_wide e ≡ high
        → (Fine → Walks d q s.1 (s.0.rels ∷ open_))
        → Good (Left q made splits) (three_by (branch d q made es) e low high s) (λ nodes. Fine → Walks d q nodes open_)
    three_good true high a b w = tt
    three_good false true a b w =
        good_chain (Left q made splits) (branch d q made es (knowing s.0 (facts.below_zero e), s.1 ++ Split e ∷ [])) _
        (λ nodes. ⊥ → Walks d q nodes []) (λ nodes. Fine → Walks d q nodes open_)
        (go ⊥ [] (facts.below_zero e) (s.1 ++ Split e ∷ []) is_low (λ f. absurd f)) (λ nodes k.
        good_chain (Left q made splits) (branch d q made es (knowing s.0 (is_zero e), nodes)) _
        (λ more. ⊥ → Walks d q more []) (λ more. Fine → Walks d q more open_)
        (go ⊥ [] (is_zero e) nodes is_none (λ f. absurd f)) (λ more j. tt))
    three_good false false a b w =
        let low = s.0.rels ++ facts.below_zero e ∷ [] in
        let zero = s.0.rels ++ is_zero e ∷ [] in
        let high = s.0.rels ++ facts.above_zero e ∷ [] in
        let split = λ (f : Fine). walks_on d q s.1 (Split e) s.0.rels open_
        ((facts.below_zero e ∷ []) ∷ (is_zero e ∷ []) ∷ (facts.above_zero e ∷ []) ∷ []) (w f) (split_gives s.0.rels e a b) in
        good_chain (Left q made splits) (branch d q made es (knowing s.0 (facts.below_zero e), s.1 ++ Split e ∷ [])) _
        (λ nodes. Fine → Walks d q nodes (zero ∷ high ∷ open_)) (λ nodes. Fine → Walks d q nodes open_)
        (go Fine (zero ∷ high ∷ open_) (facts.below_zero e) (s.1 ++ Split e ∷ []) is_low split) (λ nodes k.
        good_chain (Left q made splits) (branch d q made es (knowing s.0 (is_zero e), nodes)) _
        (λ more. Fine → Walks d q more (high ∷ open_)) (λ more. Fine → Walks d q more open_)
        (go Fine (high ∷ open_) (is_zero e) nodes is_none k) (λ more j.
        go Fine open_ (facts.above_zero e) more is_high j))

  pub branch_good : (es : List Form) → BranchGood es
  branch_good [] K more one adds ends Fine open_ s w known =
      good_chain (Left q made splits) (closing d q made s) leaf_end
      (Closed d q (Left q made splits) Fine open_ made (AreDecided splits)
      (With d q (Left q made splits) Fine open_ made (AreDecided splits) K)) (λ nodes. Fine → Walks d q nodes open_)
      (closing_good d q (Left q made splits) Fine open_ made (AreDecided splits) all K more one
      (λ rels insts h. (ends rels insts h (All-nil (IsDecided rels))).1) adds s (w, known)) (λ r h. by r h)
    where
      by : (r : State × Option Point) → Closed d q (Left q made splits) Fine open_ made (AreDecided splits)
          (With d q (Left q made splits) Fine open_ made (AreDecided splits) K) r
          → Good (Left q made splits) (leaf_end r) (λ nodes. Fine → Walks d q nodes open_)
      by (t, None) h = h
      by (t, Some point) h =
          let left = ends t.0.rels t.0.insts h.0.1.0 (All-nil (IsDecided t.0.rels)) in
          (h.1, left.0, left.1, h.0.1.1)
  branch_good (e ∷ es) K more one adds ends Fine open_ s w known =
      good_chain (Left q made splits) (closing d q made s) (split_end (three (branch d q made es) e))
      (Closed d q (Left q made splits) Fine open_ made (λ rels. ⊤) (With d q (Left q made splits) Fine open_ made (λ rels. ⊤) K))
      (λ nodes. Fine → Walks d q nodes open_)
      (closing_good d q (Left q made splits) Fine open_ made (λ rels. ⊤) all K more one (λ rels insts h. tt) adds s (w, known))
      (λ r h. by (branch_good es) r h)
    where
      by : BranchGood es → (r : State × Option Point)
          → Closed d q (Left q made splits) Fine open_ made (λ rels. ⊤) (With d q (Left q made splits) Fine open_ made (λ rels. ⊤) K) r
          → Good (Left q made splits) (split_end (three (branch d q made es) e) r) (λ nodes. Fine → Walks d q nodes open_)
      by rest (t, None) h = h
      by rest (t, Some point) h =
          three_good e es rest K more one adds ends Fine open_ t h.0.1.0 (facts.is_below_wide e) (facts.is_above_wide e) refl refl h.0.0
