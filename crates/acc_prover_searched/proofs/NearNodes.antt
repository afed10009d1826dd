-- The nodes with which the course of a search ends are near: their numbers that may have more than 64 bits are within 2^120 of 0.
use Rattle.std.proofs.Common.{◌≡◌, ℕ, Bool, true, false, List, [], ◌∷◌, ◌++◌, map, Option, Some, None, Ok, Err, refl, ap, sym, ◌∙◌, subst}
use Rattle.std.proofs.Common.{arith, ℤ, pos, negsuc, ◌+ℤ◌, ◌*ℤ◌, if◌then◌else◌}
use Rattle.std.specs.Prelude.{All, IsTrue, MatchOption, ⊤, ◌&&◌, ◌||◌, unsigned_abs}
use Rattle.std.specs.List.{list_all, list_any}
use Rattle.std.proofs.lemmas.Int.{unsigned_abs-mul}
use Rattle.std.proofs.lemmas.Bool.Decides.{nat_tests}
use Rattle.std.proofs.lemmas.List.Elements.{All-head, All-tail}
use Rattle.std.proofs.lemmas.List.Folds.{list_all-append, list_any-append}
use Rattle.acc_base.specs.declared.forms.Lin.{Lin}
use Rattle.acc_base.specs.declared.forms.Form.{Form}
use Rattle.acc_base.specs.declared.forms.Rel.{Rel}
use Rattle.acc_base.specs.declared.designs.Design.{Design}
use Rattle.acc_base.specs.declared.sequents.Sequent.{Sequent}
use Rattle.acc_base.specs.Bounded.{IsBounded, is_wide}
use Rattle.acc_base.specs.Computing.{chain, steps}
use Rattle.acc_base.specs.Sums.{Term, all_grown, summands}
use Rattle.acc_farkas.specs.declared.refuting.Mults.{Mults}
use Rattle.acc_farkas.specs.Sums.{Pair}
use Rattle.acc_elim_points.specs.Points.{Point}
use Rattle.acc_elim_decisions.specs.declared.verdicts.Verdict.{Verdict}
use Rattle.acc_elim_decisions.specs.declared.verdicts.Verdict.TheVariants.{Refuted, Solved}
use Rattle.acc_elim_decisions.specs.Decisions.{decision}
use Rattle.acc_elim_decisions.proofs.Shown.{refuted_is_accepted}
use Rattle.acc_elim_readings.specs.Readings.{unknowns_of}
use Rattle.acc_axioms.specs.declared.kinds.AxiomKind.{AxiomKind}
use Rattle.acc_axioms.specs.declared.nodes.Node.{Node}
use Rattle.acc_axioms.specs.declared.nodes.Node.TheVariants.{Split, Axiom, Inst, Leaf}
use Rattle.acc_axioms.specs.declared.nodes.Schema.{Schema}
use Rattle.acc_axioms.specs.Axioms.{axiom_of}
use Rattle.acc_axioms.specs.SchemaEquality.{schema_eq}
use Rattle.acc_cert_bounds.specs.InBounds.{is_near, form_near, mults_near, node_near, nodes_near}
use Rattle.acc_proof.specs.Facts as facts
use Rattle.acc_inst.specs.declared.making.Instance.{Instance}
use Rattle.acc_inst.specs.Making.{instance_of}
use Rattle.acc_inst.specs.Lists.{lists_of}
use Rattle.acc_prover_candidates.specs.Candidates.{candidates}
use Rattle.acc_prover_candidates.specs.Kinds.{kinds}
use Rattle.acc_prover_course.specs.Halt.TheVariants.{Open, Crowded, Wide, Many, Memory}
use Rattle.acc_prover_course.specs.Courses.{Course}
use Rattle.acc_prover_course.specs.Known.{State, try_above_zero, verdict, multipliers_in, refuting, with_next, if_shown, excludes, shows_at_most}
use Rattle.acc_prover_course.specs.Known.{shows_at_least, shows_rest, shows, shows_all}
use Rattle.acc_prover_course.specs.AxiomPasses.{with_axiom, try_demand, try_axiom, try_kind, axioms_pass}
use Rattle.acc_prover_course.specs.declared.branches.Sign.{Sign}
use Rattle.acc_prover_course.specs.declared.branches.Sign.TheVariants.{Below, Zero, Above}
use Rattle.acc_prover_course.specs.Passes.{is_place, with_instance, try_instance, try_next, instances_pass, passes}
use Rattle.acc_prover_course.specs.Searches.{knowing, ended, leaf_end, split_end, under, branch_under, three, tried, closing_by, closing, branch}
use Rattle.acc_prover_course.specs.Searches.{of_lists, starting, started, course}
use Rattle.acc_prover_searched.proofs.Good.{Leaf as AtLeaf, Good, good_chain, good_weaker, good_steps}
use Rattle.acc_prover_searched.proofs.Showing.{verdict_good}
use Rattle.acc_prover_searched.proofs.Closing.{good_if}
use Rattle.acc_prover_searched.proofs.Instances.{off_both}

-- ---- one more at the end

pushed : {A : Type 0} → (p : A → Bool) (xs : List A) (x : A) → IsTrue (list_all p xs) → IsTrue (p x) → IsTrue (list_all p (xs ++ x ∷ []))
pushed p xs x h k = list_all-append p xs (x ∷ []) ∙ (ap (λ b. b && (p x && true)) h ∙ ap (λ b. b && true) k)

-- ---- numbers

bounded_near : (z : ℤ) → IsBounded z → IsTrue (is_near z)
bounded_near z h = grind (arith, nat_tests, h)

all_near : (ms : List Pair) → All (λ m. IsBounded m.1) ms → IsTrue (list_all (λ m. is_near m.1) ms)
all_near [] all = refl
all_near (m ∷ ms) all =
    ap (λ b. b && list_all (λ m. is_near m.1) ms) (bounded_near m.1 (All-head (λ m. IsBounded m.1) m ms all))
    ∙ all_near ms (All-tail (λ m. IsBounded m.1) m ms all)

-- a number whose opposite isn't too large
opposite_near : (z : ℤ) → is_wide (negsuc 0 *ℤ z) ≡ false → IsTrue (is_near z)
opposite_near z h =
    let size = unsigned_abs-mul (negsuc 0) z in
    let same : unsigned_abs (negsuc 0 *ℤ z) ≡ unsigned_abs z = omega (arith, size) in
    grind (arith, nat_tests, h, same)

terms_near : (ts : List Term) → list_any is_wide (map (λ t. negsuc 0 *ℤ t.1) ts) ≡ false → IsTrue (list_all (λ t. is_near t.1) ts)
terms_near [] h = refl
terms_near (t ∷ ts) h =
    let parts = off_both (is_wide (negsuc 0 *ℤ t.1)) (list_any is_wide (map (λ t. negsuc 0 *ℤ t.1) ts)) h in
    ap (λ b. b && list_all (λ t. is_near t.1) ts) (opposite_near t.1 parts.0) ∙ terms_near ts parts.1

-- a form of which the difference 1 - f has no number that is too large
above_near : (f : Form) → facts.is_above_wide f ≡ false → IsTrue (form_near f)
above_near f h =
    let opposites = map (λ (t : Term). negsuc 0 *ℤ t.1) f.terms in
    let grown = all_grown [] (summands facts.one (negsuc 0) f) in
    let constant = negsuc 0 *ℤ f.constant in
    let first = off_both (is_wide constant) (is_wide (pos 1 +ℤ constant) || list_any is_wide (opposites ++ grown)) h in
    let second = off_both (is_wide (pos 1 +ℤ constant)) (list_any is_wide (opposites ++ grown)) first.1 in
    let split = off_both (list_any is_wide opposites) (list_any is_wide grown)
    (sym (list_any-append is_wide opposites grown) ∙ second.1) in
    ap (λ b. b && is_near f.constant) (terms_near f.terms split.0) ∙ opposite_near f.constant first.0

-- ---- parts of a search, whatever is left open

abbrev AnyLeaf : AtLeaf
AnyLeaf rels point = ⊤

abbrev Gives : {A : Type 0} → Course A → (A → Type 0) → Type 0
Gives = Good AnyLeaf

whatever : {A : Type 0} → (o : Course A) → Gives o (λ x. ⊤)
whatever (Ok x) = tt
whatever (Err (Open rels point)) = tt
whatever (Err Crowded) = tt
whatever (Err Wide) = tt
whatever (Err Many) = tt
whatever (Err Memory) = tt

-- ---- multipliers

abbrev NearOne : Mults → Type 0
NearOne m = IsTrue (mults_near m)

abbrev NearAll : List Mults → Type 0
NearAll ms = IsTrue (list_all mults_near ms)

abbrev IfOne : Option Mults → Type 0
IfOne o = MatchOption o ⊤ NearOne

abbrev IfAll : Option (List Mults) → Type 0
IfAll o = MatchOption o ⊤ NearAll

verdict_near : (rels : List Rel) → Gives (verdict rels) (λ v. IfOne (multipliers_in v))
verdict_near rels =
    good_weaker AnyLeaf (verdict rels) (λ v. decision rels ≡ Ok v) (λ v. IfOne (multipliers_in v)) (verdict_good AnyLeaf rels)
    (λ v e. by v e)
  where
    by : (v : Verdict) → decision rels ≡ Ok v → IfOne (multipliers_in v)
    by (Refuted ms) e = all_near ms.of (refuted_is_accepted rels (Ok (Refuted ms)) e).near
    by (Solved point) e = tt

next_near : (found : List Mults) → NearAll found → (o : Option Mults) → IfOne o → IfAll (with_next found o)
next_near found h None k = tt
next_near found h (Some m) k = pushed mults_near found m h k

excludes_near : (rels : List Rel) (found : List Mults) (r : Rel) → NearAll found → Gives (excludes rels found r) IfAll
excludes_near rels found r h =
    good_chain AnyLeaf (refuting (rels ++ r ∷ [])) _ IfOne IfAll
    (good_chain AnyLeaf (verdict (rels ++ r ∷ [])) _ (λ v. IfOne (multipliers_in v)) IfOne (verdict_near (rels ++ r ∷ [])) (λ v k. k))
    (λ o k. next_near found h o k)

excluded_near : (rels : List Rel) (found : List Mults) (wide : Bool) (r : Rel) → NearAll found
    → Gives (chain (if wide then Err Wide else Ok r) (excludes rels found)) IfAll
excluded_near rels found true r h = tt
excluded_near rels found false r h = excludes_near rels found r h

rest_near : (rels : List Rel) (equal : Bool) (f : Form) (found : List Mults) → NearAll found
    → Gives (if equal then shows_at_least rels found f else Ok (Some found)) IfAll
rest_near rels true f found h = excluded_near rels found (facts.is_below_wide f) (facts.below_zero f) h
rest_near rels false f found h = h

shows_near : (rels : List Rel) (found : List Mults) (r : Rel) → NearAll found → Gives (shows rels found r) IfAll
shows_near rels found r h =
    good_chain AnyLeaf (shows_at_most rels found r.form) _ IfAll IfAll
    (excluded_near rels found (facts.is_above_wide r.form) (facts.above_zero r.form) h) (λ o k. by o k)
  where
    by : (o : Option (List Mults)) → IfAll o → Gives (if_shown o (shows_rest rels r)) IfAll
    by None k = tt
    by (Some more) k = rest_near rels r.equal r.form more k

all_shown_near : (rels : List Rel) (found : List Mults) (rs : List Rel) → NearAll found → Gives (shows_all rels found rs) IfAll
all_shown_near rels found [] h = h
all_shown_near rels found (r ∷ rs) h =
    good_chain AnyLeaf (shows rels found r) _ IfAll IfAll (shows_near rels found r h)
    (λ o k. by (λ more j. all_shown_near rels more rs j) o k)
  where
    by : ((more : List Mults) → NearAll more → Gives (shows_all rels more rs) IfAll) → (o : Option (List Mults)) → IfAll o
        → Gives (if_shown o (λ more. shows_all rels more rs)) IfAll
    by rest None k = tt
    by rest (Some more) k = rest more k

-- ---- the passes

abbrev Near : List Node → Type 0
Near nodes = IsTrue (nodes_near nodes)

abbrev NearAt : State → Type 0
NearAt s = Near s.1

instance_near : (s : State) (i : ℕ) (x : Instance) → NearAt s → Gives (try_instance s i x) NearAt
instance_near s i x h =
    good_if AnyLeaf (list_any (is_place i) s.0.insts) s _ NearAt h
    (good_chain AnyLeaf (shows_all s.0.rels [] x.guards) _ IfAll NearAt (all_shown_near s.0.rels [] x.guards refl) (λ o k. by o k))
  where
    by : (o : Option (List Mults)) → IfAll o → NearAt (with_instance s i x o)
    by None k = h
    by (Some ms) k = pushed node_near s.1 (Inst x.hypothesis x.values ms) h k

instances_near : (made : List Instance) (s : State) → NearAt s → Gives (instances_pass made s) NearAt
instances_near made s h =
    good_chain AnyLeaf (steps try_next (0, s) made) _ (λ u. NearAt u.1) NearAt
    (good_steps AnyLeaf try_next (λ u. NearAt u.1)
    (λ u x k. good_chain AnyLeaf (try_instance u.1 u.0 x) _ NearAt (λ w. NearAt w.1) (instance_near u.1 u.0 x k) (λ t j. j)) made (0, s) h)
    (λ u k. k)

module _ (d : Design) (q : Sequent) where
  demand_near : (s : State) (a : Schema) → NearAt s → Gives (try_demand s a (axiom_of d q a)) NearAt
  demand_near s a h = may_near (axiom_of d q a).may
    where
      by : (o : Option (List Mults)) → IfAll o → NearAt (with_axiom s a (axiom_of d q a).added o)
      by None k = h
      by (Some ms) k = pushed node_near s.1 (Axiom a ms) h k

      may_near : (may : Bool) → Gives (if may then chain (shows_all s.0.rels [] (axiom_of d q a).facts)
          (λ o. Ok (with_axiom s a (axiom_of d q a).added o)) else Ok s) NearAt
      may_near true =
          good_chain AnyLeaf (shows_all s.0.rels [] (axiom_of d q a).facts) _ IfAll NearAt
          (all_shown_near s.0.rels [] (axiom_of d q a).facts refl) (λ o k. by o k)
      may_near false = h

  axiom_near : (s : State) (a : Schema) → NearAt s → Gives (try_axiom d q s a) NearAt
  axiom_near s a h =
      good_if AnyLeaf (list_any (schema_eq a) s.0.axioms) s (try_demand s a (axiom_of d q a)) NearAt h (demand_near s a h)

  kind_near : (s : State) (kind : AxiomKind) → NearAt s → Gives (try_kind d q s kind) NearAt
  kind_near s kind h = good_steps AnyLeaf (try_axiom d q) NearAt axiom_near (candidates (unknowns_of s.0.rels) kind) s h

  passes_near : (made : List Instance) (s : State) → NearAt s → Gives (passes d q made s) NearAt
  passes_near made s h =
      good_chain AnyLeaf (instances_pass made s) (axioms_pass d q) NearAt NearAt (instances_near made s h)
      (λ t k. good_steps AnyLeaf (try_kind d q) NearAt kind_near kinds t k)

  -- ---- branches

  module _ (made : List Instance) where
    ended_near : (s : State) (v : Verdict) → NearAt s → IfOne (multipliers_in v) → NearAt (ended s v).0
    ended_near s (Refuted ms) h k = pushed node_near s.1 (Leaf ms) h k
    ended_near s (Solved point) h k = h

    tried_near : (s : State) → NearAt s → Gives (tried d q made s) (λ r. NearAt r.0)
    tried_near s h =
        good_chain AnyLeaf (passes d q made s) _ NearAt (λ r. NearAt r.0) (passes_near made s h) (λ t k.
        good_chain AnyLeaf (verdict t.0.rels) _ (λ v. IfOne (multipliers_in v)) (λ r. NearAt r.0) (verdict_near t.0.rels)
        (λ v j. ended_near t v k j))

    closing_near : (s : State) → NearAt s → Gives (closing d q made s) (λ r. NearAt r.0)
    closing_near s h =
        good_chain AnyLeaf (verdict s.0.rels) (closing_by d q made s) (λ v. IfOne (multipliers_in v)) (λ r. NearAt r.0)
        (verdict_near s.0.rels) (λ v k. by v k)
      where
        by : (v : Verdict) → IfOne (multipliers_in v) → Gives (closing_by d q made s v) (λ r. NearAt r.0)
        by (Refuted ms) k = ended_near s (Refuted ms) h k
        by (Solved point) k = tried_near s h

    -- a split is noted before its branches; where one of its numbers is too large, the third branch isn't entered
    module _ (go : State → Course (List Node)) (rest : (s : State) → NearAt s → Gives (go s) Near) (e : Form) (s : State) where
      at_sign : (sign : Sign) (nodes : List Node) → Near nodes → Gives (branch_under go sign e (s.0, nodes)) Near
      at_sign sign nodes h =
          good_chain AnyLeaf (under sign s.0 e) _ (λ known. ⊤) Near (whatever (under sign s.0 e)) (λ known k. rest (known, nodes) h)

      stops : facts.is_above_wide e ≡ true → (nodes : List Node) → Gives (branch_under go Above e (s.0, nodes)) Near
      stops wide nodes =
          subst (λ (b : Bool). Gives (chain (chain (if b then Err Wide else Ok (facts.above_zero e)) (λ r. Ok (knowing s.0 r)))
          (λ known. go (known, nodes))) Near) (sym wide) tt

      three_by : (wide : Bool) → facts.is_above_wide e ≡ wide → NearAt s → Gives (three go e s) Near
      three_by true wide h =
          good_chain AnyLeaf (branch_under go Below e (s.0, s.1 ++ Split e ∷ [])) _ (λ nodes. ⊤) Near
          (whatever (branch_under go Below e (s.0, s.1 ++ Split e ∷ []))) (λ nodes k.
          good_chain AnyLeaf (branch_under go Zero e (s.0, nodes)) _ (λ more. ⊤) Near
          (whatever (branch_under go Zero e (s.0, nodes))) (λ more j. stops wide more))
      three_by false narrow h =
          good_chain AnyLeaf (branch_under go Below e (s.0, s.1 ++ Split e ∷ [])) _ Near Near
          (at_sign Below (s.1 ++ Split e ∷ []) (pushed node_near s.1 (Split e) h (above_near e narrow))) (λ nodes k.
          good_chain AnyLeaf (branch_under go Zero e (s.0, nodes)) _ Near Near (at_sign Zero nodes k) (λ more j. at_sign Above more j))

    branch_near : (es : List Form) (s : State) → NearAt s → Gives (branch d q made es s) Near
    branch_near [] s h =
        good_chain AnyLeaf (closing d q made s) leaf_end (λ r. NearAt r.0) Near (closing_near s h) (λ r k. by r k)
      where
        by : (r : State × Option Point) → NearAt r.0 → Gives (leaf_end r) Near
        by (t, None) k = k
        by (t, Some point) k = tt
    branch_near (e ∷ es) s h =
        good_chain AnyLeaf (closing d q made s) (split_end (three (branch d q made es) e)) (λ r. NearAt r.0) Near (closing_near s h)
        (λ r k. by (branch_near es) r k)
      where
        by : ((s : State) → NearAt s → Gives (branch d q made es s) Near) → (r : State × Option Point) → NearAt r.0
            → Gives (split_end (three (branch d q made es) e) r) Near
        by rest (t, None) k = k
        by rest (t, Some point) k = three_by (branch d q made es) rest e t (facts.is_above_wide e) refl k

  started_near : (made : List Instance) (splits : List Form) → Gives (started d q made splits) Near
  started_near made splits =
      good_chain AnyLeaf (try_above_zero q.goal) _ (λ contrary. ⊤) Near (whatever (try_above_zero q.goal))
      (λ contrary k. branch_near made splits (starting q contrary, []) refl)

  course_near : (hints : List Lin) → Gives (course d q hints) Near
  course_near hints =
      good_chain AnyLeaf (of_lists (lists_of q hints)) _ (λ l. ⊤) Near (whatever (of_lists (lists_of q hints)))
      (λ l k. started_near (map (instance_of q) l.insts) l.splits)

  -- the nodes with which the search ends are near
  pub nodes_near_at_end : (hints : List Lin) (nodes : List Node) → course d q hints ≡ Ok nodes → IsTrue (nodes_near nodes)
  nodes_near_at_end hints nodes h = subst (λ (o : Course (List Node)). Gives o Near) h (course_near hints)
