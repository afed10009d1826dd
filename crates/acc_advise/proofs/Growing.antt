-- Sets of pairs that grow by passes.
use Rattle.std.proofs.Common.{◌≡◌, ℕ, zero, suc, ◌+◌, ◌<◌, ◌≤◌, List, [], ◌∷◌, ◌++◌, length, take, get_or, Ok, Err, refl, sym, ap}
use Rattle.std.proofs.Common.{subst, ◌∙◌, append_assoc, inl, inr, arith}
use Rattle.std.specs.Prelude.{◌≢◌, Result, OnOk, All, Some, None}
use Rattle.std.specs.List.{AllByRecursion}
use Rattle.std.proofs.lemmas.List.{append-nil, length-append, length-map, map_push, take-append-le, take_all, take_more}
use Rattle.std.proofs.lemmas.List.Elements.{All-from_recursion}
use Rattle.acc_base.specs.declared.designs.Design.{Design}
use Rattle.acc_base.specs.declared.designs.Entry.{Entry}
use Rattle.acc_base.specs.declared.sequents.Origin.{Origin}
use Rattle.acc_base.specs.declared.sequents.Sequent.{Sequent}
use Rattle.acc_axioms.specs.declared.nodes.Proof.{Proof}
use Rattle.acc_oblig_goals.specs.Causes.{sequents, first_wide}
use Rattle.acc_preconditions.proofs.Alls.{all-append}
use Rattle.acc_oblig_places.specs.ManyEntries.{with_entries}
use Rattle.acc_oblig_places.specs.Rooms.{HasFewLocals, IsSmallEntry}
use Rattle.acc_advise.specs.declared.advice.AdviseError.{AdviseError}
use Rattle.acc_advise.specs.declared.advice.AdviseError.TheVariants.{Wide}
use Rattle.acc_advise.specs.declared.advice.Beyond.{Beyond}
use Rattle.acc_advise.specs.declared.advice.Question.{Question}
use Rattle.acc_advise.specs.declared.passes.Grown.{Grown}
use Rattle.acc_advise.specs.declared.passes.Tried.{Tried}
use Rattle.acc_advise.specs.declared.spares.Inquiry.{Inquiry}
use Rattle.acc_advise.specs.declared.trials.SpareTrial.{SpareTrial}
use Rattle.acc_advise.specs.declared.trials.SpareTrial.TheVariants as trial
use Rattle.acc_advise.specs.declared.advice.Obstacle.{Obstacle}
use Rattle.acc_advise.specs.TriedDesigns.{keyed, spares_in, free_drafts, keyed_drafts}
use Rattle.acc_advise.specs.Stops.{AreProofs, Tries}
use Rattle.acc_advise.specs.Cases.{TellsWide}
use Rattle.acc_advise.specs.Advices.{IsEnough, IsBeyond, Passes, pairs_of, Settles}
use Rattle.acc_advise.specs.Steps.{Tells, Steps, IsKnown, HasPassed, reasons, tried_pairs}
use Rattle.acc_advise.proofs.Entering.{keyed_is}
use Rattle.acc_advise.proofs.Widths.{wide_with_some}

-- ---- small pairs

pub few_more : (xs : List (ℕ × ℕ)) (x : ℕ × ℕ) → AllByRecursion HasFewLocals xs → HasFewLocals x → AllByRecursion HasFewLocals (xs ++ x ∷ [])
few_more xs x h k = all-append HasFewLocals xs (x ∷ []) h (k, tt)

pub few_same : (xs : List (ℕ × ℕ)) → xs ≡ [] → AllByRecursion HasFewLocals xs
few_same xs e = subst (AllByRecursion HasFewLocals) (sym e) tt

pub few_at : (xs : List (ℕ × ℕ)) (i : ℕ) (d : ℕ × ℕ) → i < length xs → AllByRecursion HasFewLocals xs → HasFewLocals (get_or xs i d)
few_at xs i d l h = All-from_recursion HasFewLocals xs h i d l

-- what holds of each item of a list holds of one that stands in it
pub item_has :
    {X : Type 0} (P : X → Type 0) (xs : List X) (i : ℕ) (x : X) → (i < length xs) × (x ≡ get_or xs i x) → AllByRecursion P xs → P x
item_has P xs i x at h = subst P (sym at.1) (All-from_recursion P xs h i x at.0)

pub few_tried :
    (ts : List Tried) → AllByRecursion HasFewLocals (tried_pairs ts) → AllByRecursion (λ (t : Tried). HasFewLocals t.beyond.pair) ts
few_tried [] h = tt
few_tried (t ∷ ts) h = (h.0, few_tried ts h.1)

pub keyed_small :
    (q : Question) (pairs : List (ℕ × ℕ)) (x : ℕ × ℕ) (es : List Entry) → AllByRecursion HasFewLocals pairs → HasFewLocals x
    → es ≡ keyed q (pairs ++ x ∷ []) ∷ [] → All IsSmallEntry es
keyed_small q pairs x es h k e =
    subst (All IsSmallEntry) (sym e)
    (All-from_recursion IsSmallEntry (keyed q (pairs ++ x ∷ []) ∷ [])
    (All-from_recursion HasFewLocals (pairs ++ x ∷ []) (few_more pairs x h k), tt))

module _ (d : Design) (q : Question) where
  pub passes_small :
      (set pairs grown : List (ℕ × ℕ)) (bs : List Beyond) → Passes d q set pairs grown bs → AllByRecursion HasFewLocals set
      → AllByRecursion HasFewLocals pairs → AllByRecursion HasFewLocals grown × AllByRecursion HasFewLocals (pairs_of bs)
  passes_small set [] grown bs h s k = (
    subst (AllByRecursion HasFewLocals) (sym h.0) s,
    subst (λ (xs : List Beyond). AllByRecursion HasFewLocals (pairs_of xs)) (sym h.1) tt,
  )
  passes_small set (x ∷ pairs) grown bs (inl h) s k = passes_small (set ++ x ∷ []) pairs grown bs h.1 (few_more set x s k.0) k.1
  passes_small set (x ∷ pairs) grown bs (inr (b, rest, e, beyond, h)) s k =
      let both = passes_small set pairs grown rest h s k.1 in (
        both.0,
        subst (λ (xs : List Beyond). AllByRecursion HasFewLocals (pairs_of xs)) (sym e)
            (subst HasFewLocals (sym beyond.is) k.0, both.1),
      )

  -- ---- a pass

  pub no_more_than : (set pairs grown : List (ℕ × ℕ)) (bs : List Beyond) → Passes d q set pairs grown bs → length bs ≤ length pairs
  no_more_than set [] grown bs h = let e = ap length h.1 in omega (arith, e)
  no_more_than set (x ∷ pairs) grown bs (inl h) = let l = no_more_than (set ++ x ∷ []) pairs grown bs h.1 in omega (arith, l)
  no_more_than set (x ∷ pairs) grown bs (inr (b, rest, e, beyond, h)) =
      let l = no_more_than set pairs grown rest h in let n = ap length e in omega (arith, l, n)

  pub grows :
      (set pairs grown : List (ℕ × ℕ)) (bs : List Beyond) → Passes d q set pairs grown bs → (more : List (ℕ × ℕ)) × (grown ≡ set ++ more)
  grows set [] grown bs h = ([], h.0 ∙ sym (append-nil set))
  grows set (x ∷ pairs) grown bs (inl h) =
      let (more, e) = grows (set ++ x ∷ []) pairs grown bs h.1 in (x ∷ more, e ∙ append_assoc set (x ∷ []) more)
  grows set (x ∷ pairs) grown bs (inr (b, rest, e, beyond, h)) = grows set pairs grown rest h

  -- a pass over one pair more: it is added, or it is beyond
  passes_more :
      (set pairs grown : List (ℕ × ℕ)) (x : ℕ × ℕ) (bs : List Beyond) → Passes d q set pairs grown bs → IsEnough d q (grown ++ x ∷ [])
      → Passes d q set (pairs ++ x ∷ []) (grown ++ x ∷ []) bs
  passes_more set [] grown x bs h enough =
      inl (subst (λ (s : List (ℕ × ℕ)). IsEnough d q (s ++ x ∷ [])) h.0 enough, (ap (λ (s : List (ℕ × ℕ)). s ++ x ∷ []) h.0, h.1))
  passes_more set (y ∷ pairs) grown x bs (inl h) enough = inl (h.0, passes_more (set ++ y ∷ []) pairs grown x bs h.1 enough)
  passes_more set (y ∷ pairs) grown x bs (inr (b, rest, e, beyond, h)) enough =
      inr (b, rest, e, beyond, passes_more set pairs grown x rest h enough)

  passes_beyond :
      (set pairs grown : List (ℕ × ℕ)) (x : ℕ × ℕ) (bs : List Beyond) (a : Beyond) → Passes d q set pairs grown bs
      → IsBeyond d q grown x a → Passes d q set (pairs ++ x ∷ []) grown (bs ++ a ∷ [])
  passes_beyond set [] grown x bs a h is =
      inr (a, [], ap (λ (ys : List Beyond). ys ++ a ∷ []) h.1, subst (λ (s : List (ℕ × ℕ)). IsBeyond d q s x a) h.0 is, (h.0, refl))
  passes_beyond set (y ∷ pairs) grown x bs a (inl h) is = inl (h.0, passes_beyond (set ++ y ∷ []) pairs grown x bs a h.1 is)
  passes_beyond set (y ∷ pairs) grown x bs a (inr (b, rest, e, beyond, h)) is =
      inr (b, rest ++ a ∷ [], ap (λ (ys : List Beyond). ys ++ a ∷ []) e, beyond, passes_beyond set pairs grown x rest a h is)

-- ---- tries

pub told_keyed :
    (c : Inquiry) (pairs : List (ℕ × ℕ)) (es : List Entry) (t : SpareTrial) → es ≡ keyed c.question pairs ∷ []
    → Tries c.d.now (sequents (spares_in (with_entries c.d.now es) c.question)) t → Tells c pairs t
told_keyed c pairs es t e h =
    let d = c.d.now in
    subst (λ ds. Tries d (sequents ds) t) (keyed_is d c.question pairs)
    (subst (λ (xs : List Entry). Tries d (sequents (spares_in (with_entries d xs) c.question)) t) e h)

one_more : (xs : List (ℕ × ℕ)) (x : ℕ × ℕ) → xs ++ x ∷ [] ≢ []
one_more [] x e = cc
one_more (y ∷ xs) x e = cc

-- no number of an obligation is too large with one pair more, where none is without an entry
pub never_wide :
    (c : Inquiry) (pairs : List (ℕ × ℕ)) (x : ℕ × ℕ) (es : List Entry) (why : AdviseError) (o : Origin)
    → first_wide (free_drafts c.d.now c.question) ≡ None → es ≡ keyed c.question (pairs ++ x ∷ []) ∷ [] → why ≡ Wide o
    → TellsWide (spares_in (with_entries c.d.now es) c.question) why → ⊥
never_wide c pairs x es why o none e is told =
    let d = c.d.now in
    let q = c.question in
    let more = pairs ++ x ∷ [] in
    let h : first_wide (spares_in (with_entries d es) q) ≡ Some o = subst (TellsWide (spares_in (with_entries d es) q)) is told in
    let wide : first_wide (keyed_drafts d q more) ≡ Some o =
    sym (ap first_wide (keyed_is d q more)) ∙ (sym (ap (λ (xs : List Entry). first_wide (spares_in (with_entries d xs) q)) e) ∙ h) in
    let none_is : None ≡ Some o = sym none ∙ (sym (wide_with_some d q more (one_more pairs x)) ∙ wide) in
    cc

-- ---- what is known

module _ (c : Inquiry) where
  -- a set grows at its end, so what is known stays known
  still_known : (pairs more : List (ℕ × ℕ)) (t : Tried) → IsKnown c pairs t → IsKnown c (pairs ++ more) t
  still_known pairs more t h = (
    omega (arith, h.0, length-append pairs more),
    subst (λ (s : List (ℕ × ℕ)). IsBeyond c.d.now c.question s t.beyond.pair t.beyond) (sym (take-append-le t.among pairs more h.0)) h.1,
  )

  all_known :
      (pairs more : List (ℕ × ℕ)) (ts : List Tried) → AllByRecursion (IsKnown c pairs) ts → AllByRecursion (IsKnown c (pairs ++ more)) ts
  all_known pairs more [] h = tt
  all_known pairs more (t ∷ ts) h = (still_known pairs more t h.0, all_known pairs more ts h.1)

  known_now :
      (pairs : List (ℕ × ℕ)) (x : ℕ × ℕ) (t : Tried) → t.among ≡ length pairs → IsBeyond c.d.now c.question pairs x t.beyond
      → IsKnown c pairs t
  known_now pairs x t e h = (
    omega (arith, e),
    subst (λ (s : List (ℕ × ℕ)). IsBeyond c.d.now c.question s t.beyond.pair t.beyond)
        (sym (take_all t.among pairs (omega (arith, e))))
        (subst (λ (y : ℕ × ℕ). IsBeyond c.d.now c.question pairs y t.beyond) (sym h.is) h),
  )

  -- what is known of the whole set is what a try would tell
  pub kept_if :
      {E : Type 0} (now : Grown) (t : Tried) (r : Result (Unit {0}) E) (ts all : List Tried) → IsKnown c now.pairs t
      → t.among ≡ length now.pairs → OnOk r (all ≡ ts ++ t ∷ []) → OnOk r (Steps c t.beyond.pair now now ts all)
  kept_if now t (Ok x) ts all h e added =
      inr (
        t,
        e,
        subst (λ (s : List (ℕ × ℕ)). IsBeyond c.d.now c.question s t.beyond.pair t.beyond)
            (take_all t.among now.pairs (omega (arith, e))) h.1,
        refl,
        added,
      )
  kept_if now t (Err x) ts all h e added = tt

-- ---- a pass, pair by pair

module _ (c : Inquiry) (first : Grown) where
  pub start_on : (ts : List Tried) → ts ≡ [] → HasPassed c first [] first ts
  start_on ts e =
      record {
        passes = (refl, ap reasons e);
        backed = λ h. h;
        known = subst (AllByRecursion (IsKnown c first.pairs)) (sym e) tt;
      }

  pub step_on :
      (outside : List (ℕ × ℕ)) (now new : Grown) (ts all : List Tried) (pair : ℕ × ℕ) → Steps c pair now new ts all
      → HasPassed c first outside now ts → HasPassed c first (outside ++ pair ∷ []) new all
  step_on outside now new ts all pair (inl (enough, e, backed, same)) before =
      let d = c.d.now in
      let q = c.question in
      let to = outside ++ pair ∷ [] in
      let passes = passes_more d q first.pairs outside now.pairs pair (reasons ts) before.passes enough in
      record {
        passes =
            subst (λ (xs : List (ℕ × ℕ)). Passes d q first.pairs to xs (reasons all)) (sym e)
            (subst (λ (us : List Tried). Passes d q first.pairs to (now.pairs ++ pair ∷ []) (reasons us)) (sym same) passes);
        backed = λ h. backed;
        known =
            subst (AllByRecursion (IsKnown c new.pairs)) (sym same)
            (subst (λ (xs : List (ℕ × ℕ)). AllByRecursion (IsKnown c xs) ts) (sym e) (all_known c now.pairs (pair ∷ []) ts before.known));
      }
  step_on outside now new ts all pair (inr (t, count, beyond, e, added)) before =
      let d = c.d.now in
      let q = c.question in
      let to = outside ++ pair ∷ [] in
      let passes = passes_beyond d q first.pairs outside now.pairs pair (reasons ts) t.beyond before.passes beyond in
      let is : reasons all ≡ reasons ts ++ t.beyond ∷ [] = ap reasons added ∙ map_push (λ (u : Tried). u.beyond) ts t in
      subst (λ (g : Grown). HasPassed c first to g all) (sym e)
      (record {
        passes = subst (Passes d q first.pairs to now.pairs) (sym is) passes;
        backed = before.backed;
        known =
            subst (AllByRecursion (IsKnown c now.pairs)) (sym added)
            (all-append (IsKnown c now.pairs) ts (t ∷ []) before.known (known_now c now.pairs pair t count beyond, tt));
      })

  pub steps_on :
      (outside : List (ℕ × ℕ)) (now new : Grown) (ts all : List Tried) (i : ℕ) (d : ℕ × ℕ) → i < length outside
      → Steps c (get_or outside i d) now new ts all → HasPassed c first (take i outside) now ts
      → HasPassed c first (take (i + 1) outside) new all
  steps_on outside now new ts all i d l h before =
      subst (λ (xs : List (ℕ × ℕ)). HasPassed c first xs new all) (sym (take_more outside i d l))
      (step_on (take i outside) now new ts all (get_or outside i d) h before)

  pub tries_on :
      (outside : List Tried) (t : Tried) (now new : Grown) (ts all : List Tried) → Steps c t.beyond.pair now new ts all
      → HasPassed c first (tried_pairs outside) now ts → HasPassed c first (tried_pairs (outside ++ t ∷ [])) new all
  tries_on outside t now new ts all h before =
      let is : tried_pairs (outside ++ t ∷ []) ≡ tried_pairs outside ++ t.beyond.pair ∷ [] =
      ap pairs_of (map_push (λ (u : Tried). u.beyond) outside t) ∙ map_push (λ (b : Beyond). b.pair) (reasons outside) t.beyond in
      subst (λ (xs : List (ℕ × ℕ)). HasPassed c first xs new all) (sym is)
      (step_on (tried_pairs outside) now new ts all t.beyond.pair h before)

  pub passed :
      (outside : List (ℕ × ℕ)) (now : Grown) (ts : List Tried) (i : ℕ) → length outside ≤ i → HasPassed c first (take i outside) now ts
      → HasPassed c first outside now ts
  passed outside now ts i l h = subst (λ (xs : List (ℕ × ℕ)). HasPassed c first xs now ts) (take_all i outside l) h

  -- what is known when a pass begins is known in it
  pub known_within :
      (outside : List (ℕ × ℕ)) (now : Grown) (ts : List Tried) (t : Tried) → HasPassed c first outside now ts → IsKnown c first.pairs t
      → IsKnown c now.pairs t
  known_within outside now ts t h known =
      let (more, e) = grows c.d.now c.question first.pairs outside now.pairs (reasons ts) h.passes in
      subst (λ (xs : List (ℕ × ℕ)). IsKnown c xs t) (sym e) (still_known c first.pairs more t known)

pub stepped_small :
    (c : Inquiry) (now new : Grown) (ts all : List Tried) (pair : ℕ × ℕ) → Steps c pair now new ts all
    → AllByRecursion HasFewLocals now.pairs → HasFewLocals pair → AllByRecursion HasFewLocals new.pairs
stepped_small c now new ts all pair (inl h) s k = subst (AllByRecursion HasFewLocals) (sym h.1) (few_more now.pairs pair s k)
stepped_small c now new ts all pair (inr (t, count, beyond, e, added)) s k =
    subst (λ (g : Grown). AllByRecursion HasFewLocals g.pairs) (sym e) s

-- ---- passes, one after the other

-- a pass was made from a set over so many pairs, and what settles from there settles from nothing
abbrev pub Leads : Inquiry → List (ℕ × ℕ) → ℕ → Grown → List Beyond → Type 0
Leads c candidates n now bs =
    (before : List (ℕ × ℕ)) × (outside : List (ℕ × ℕ)) × (n ≡ length outside) × Passes c.d.now c.question before outside now.pairs bs
    × ((m : ℕ) (grown : List (ℕ × ℕ)) (more : List Beyond) → Settles c.d.now c.question m before outside grown more
    → (k : ℕ) × Settles c.d.now c.question k [] candidates grown more)

module _ (c : Inquiry) (candidates : List (ℕ × ℕ)) where
  pub leads_first :
      (start : List (ℕ × ℕ)) (now : Grown) (n : ℕ) (bs : List Beyond) → start ≡ [] → n ≡ length candidates
      → Passes c.d.now c.question start candidates now.pairs bs → Leads c candidates n now bs
  leads_first start now n bs e f h = (
    [],
    candidates,
    f,
    subst (λ (s : List (ℕ × ℕ)). Passes c.d.now c.question s candidates now.pairs bs) e h,
    λ m grown more k. (m, k),
  )

  pub leads_on :
      (n m : ℕ) (now new : Grown) (bs all : List Beyond) (left : List (ℕ × ℕ)) → m < n → m ≡ length bs → left ≡ pairs_of bs
      → Leads c candidates n now bs → Passes c.d.now c.question now.pairs left new.pairs all → Leads c candidates m new all
  leads_on n m now new bs all left fewer f e (before, outside, count, passes, lead) h = (
    now.pairs,
    pairs_of bs,
    f ∙ sym (length-map bs (λ (b : Beyond). b.pair)),
    subst (λ (o : List (ℕ × ℕ)). Passes c.d.now c.question now.pairs o new.pairs all) e h,
    λ k grown more s. lead (suc k) grown more (now.pairs, bs, passes, (omega (arith, fewer, f, count)), s),
  )

  pub led :
      (n : ℕ) (now : Grown) (bs : List Beyond) → n ≤ length bs → Leads c candidates n now bs
      → (k : ℕ) × Settles c.d.now c.question k [] candidates now.pairs bs
  led n now bs enough (before, outside, count, passes, lead) =
      let few = no_more_than c.d.now c.question before outside now.pairs bs passes in
      let e : length bs ≡ length outside = omega (arith, enough, few, count) in
      lead zero now.pairs bs (passes, e)

-- ---- one try

module _ {E : Type 0} (c : Inquiry) (pair : ℕ × ℕ) (old new : Grown) where
  pub added_if :
      (r : Result (Unit {0}) E) (proofs : List Proof) (ts : List Tried) → Tells c (old.pairs ++ pair ∷ []) (trial.Proved proofs)
      → OnOk r (new.pairs ≡ old.pairs ++ pair ∷ []) → OnOk r (new.proofs ≡ proofs) → OnOk r (Steps c pair old new ts ts)
  added_if (Ok x) proofs ts h e f =
      let qs : List (ℕ × ℕ) → List Sequent = λ xs. sequents (keyed_drafts c.d.now c.question xs) in
      let backed = subst (λ (ps : List Proof). AreProofs c.d.now (qs new.pairs) ps) (sym f)
      (subst (λ (xs : List (ℕ × ℕ)). AreProofs c.d.now (qs xs) proofs) (sym e) h.1) in
      inl (h.0, e, backed, refl)
  added_if (Err x) proofs ts h e f = tt

pub stopped_if :
    {E : Type 0} (c : Inquiry) (pair : ℕ × ℕ) (old : Grown) (r : Result (Unit {0}) E) (ts all : List Tried) (o : Origin) (w : Obstacle) (n : ℕ)
    → Tells c (old.pairs ++ pair ∷ []) (trial.Stopped o w) → n ≡ length old.pairs
    → OnOk r (all ≡ ts ++ record { beyond = record { pair = pair; origin = o; why = w }; among = n } ∷ [])
    → OnOk r (Steps c pair old old ts all)
stopped_if c pair old (Ok x) ts all o w n h count e =
    inr (
      record { beyond = record { pair = pair; origin = o; why = w }; among = n },
      count,
      record { is = refl; first = h },
      refl,
      e,
    )
stopped_if c pair old (Err x) ts all o w n h count e = tt
