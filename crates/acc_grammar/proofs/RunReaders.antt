-- The readers of signs that pass a test are exact.
use Rattle.std.proofs.Common.{◌≡◌, ℕ, ◌≤◌, Bool, true, false, List, [], ◌∷◌, ◌++◌, length, take, drop, Ok, Err, refl, sym, ap, subst, ◌∙◌}
use Rattle.std.proofs.Common.{arith, inl, inr, ◌⊎◌, length-append}
use Rattle.std.proofs.lemmas.List.{take_at, drop_at}
use Rattle.std.specs.List.{prefix_len}
use Rattle.acc_grammar.specs.Runs.{EachPasses, IsRun, next_is, run, behind_run, one_at, run_at, front_at, absent_at}
use Rattle.acc_grammar.proofs.Exact.{ok_is, Stops, Exact, All, Free, ByHead, chosen}

pub flag : (b : Bool) → (b ≡ true) ⊎ (b ≡ false)
flag true = inl refl
flag false = inr refl

pub next_head : {S : Type 0} (test : S → Bool) → ByHead (next_is test)
next_head test w more after = refl

-- ---- what a run is

pub run_splits : {S : Type 0} (test : S → Bool) (ss : List S) → ss ≡ run test ss ++ behind_run test ss
run_splits test [] = refl
run_splits {S} test (s ∷ ss) = elim (flag (test s)) [ inl h ↦ rw h (ap (λ (z : List S). s ∷ z) (run_splits test ss)) | inr h ↦ rw h refl ]

pub run_passes : {S : Type 0} (test : S → Bool) (ss : List S) → EachPasses test (run test ss)
run_passes test [] = tt
run_passes test (s ∷ ss) = elim (flag (test s)) [ inl h ↦ rw h (h, run_passes test ss) | inr h ↦ rw h tt ]

pub run_stops : {S : Type 0} (test : S → Bool) (ss : List S) → next_is test (behind_run test ss) ≡ false
run_stops test [] = refl
run_stops test (s ∷ ss) = elim (flag (test s)) [ inl h ↦ rw h (run_stops test ss) | inr h ↦ rw h h ]

pub run_again : {S : Type 0} (test : S → Bool) (w rest : List S) → EachPasses test w → next_is test rest ≡ false →
    (run test (w ++ rest) ≡ w) × (behind_run test (w ++ rest) ≡ rest)
run_again test [] [] p h = (refl, refl)
run_again test [] (r ∷ rest) p h = (rw h refl, rw h refl)
run_again {S} test (s ∷ ss) rest p h = let k = run_again test ss rest p.1 h in (rw p.0 (ap (λ (z : List S). s ∷ z) k.0), rw p.0 k.1)

-- how long a run is, and what stands before and behind it
pub run_fits : {S : Type 0} (test : S → Bool) (ss : List S) → length (run test ss) ≤ length ss
run_fits test ss = omega (arith, ap length (run_splits test ss), length-append (run test ss) (behind_run test ss))

pub take_run : {S : Type 0} (test : S → Bool) (ss : List S) → take (length (run test ss)) ss ≡ run test ss
take_run test ss = ap (take (length (run test ss))) (run_splits test ss) ∙ take_at (run test ss) (behind_run test ss) (length (run test ss))
    refl

pub drop_run : {S : Type 0} (test : S → Bool) (ss : List S) → drop (length (run test ss)) ss ≡ behind_run test ss
drop_run test ss = ap (drop (length (run test ss))) (run_splits test ss) ∙ drop_at (run test ss) (behind_run test ss) (length (run test ss))
    refl

pub prefix_is_run : {S : Type 0} (test : S → Bool) (ss : List S) → prefix_len test ss ≡ length (run test ss)
prefix_is_run test [] = refl
prefix_is_run test (s ∷ ss) = elim (flag (test s)) [ inl h ↦ rw h (omega (arith, prefix_is_run test ss)) | inr h ↦ rw h refl ]

module _ {S : Type 0} (test : S → Bool) (ss w rest : List S) (n : ℕ) (len : n ≡ prefix_len test ss) (front : w ≡ take n ss)
    (back : rest ≡ drop n ss) where
  -- what was cut off is the run, and what is left stands behind it
  pub cut_run : w ≡ run test ss
  cut_run = front ∙ ap (λ (k : ℕ). take k ss) (len ∙ prefix_is_run test ss) ∙ take_run test ss

  pub cut_rest : rest ≡ behind_run test ss
  cut_rest = back ∙ ap (λ (k : ℕ). drop k ss) (len ∙ prefix_is_run test ss) ∙ drop_run test ss

  pub cut_len : length w ≡ n
  cut_len = ap length cut_run ∙ sym (len ∙ prefix_is_run test ss)

  -- each sign that was cut off passes
  pub cut_passes : EachPasses test w
  cut_passes = subst (EachPasses test) (sym cut_run) (run_passes test ss)

  -- so the readers of runs give what was cut off
  pub front_read : front_at test ss ≡ Ok (w, rest)
  unfolding front_at
  front_read = λ i. Ok (sym cut_run i, sym cut_rest i)

  pub run_read : (first : S → Bool) → next_is first ss ≡ true → run_at first test ss ≡ Ok (w, rest)
  unfolding run_at
  run_read first h = rw h (λ i. Ok (sym cut_run i, sym cut_rest i))

-- ---- their readers

-- how one sign, and signs, are spelled
abbrev pub just : {S : Type 0} → S → List S
just s = s ∷ []

abbrev pub itself : {S : Type 0} → List S → List S
itself w = w

abbrev pub nothing : {S : Type 0} → Unit {0} → List S
nothing o = []

-- it passes
abbrev pub Passes : {S : Type 0} → (S → Bool) → S → Type 0
Passes test s = test s ≡ true

-- no further sign that passes follows
abbrev pub Apart : {S T : Type 0} → (S → Bool) → T → List S → Type 0
Apart test t rest = next_is test rest ≡ false

module _ {S : Type 0} (Q : S → Type 0) (test : S → Bool) (some : S) (good : test some ≡ true) (plain : Q some) where
  one_takes : (ss : List S) (t : S) (rest : List S) → one_at test ss ≡ Ok (t, rest) → (ss ≡ just t ++ rest) × Passes test t × Free t rest
  unfolding one_at
  one_takes [] t rest e = absurd cc
  one_takes (s ∷ ss) t rest e = elim (chosen (test s) (Ok (s, ss)) (Err (s ∷ ss)) (Ok (t, rest)) e) [
    | inl h ↦ (let z : S × List S = (s, ss) in subst (λ (z : S × List S). (s ∷ ss ≡ just z.0 ++ z.1) × Passes test z.0 × Free z.0 z.1)
        (ok_is z (t, rest) h.1) (refl, h.0, tt))
    | inr h ↦ absurd (let wrong = h.1 in cc)
  ]

  one_stops : (ss rest : List S) → one_at test ss ≡ Err rest → Stops Q just (Passes test) (one_at test) ss rest
  unfolding one_at
  one_stops [] rest e = let is : [] ≡ rest = cc in
      record {
        front = [];
        split = is;
        more = some ∷ [];
        tree = some;
        fits = good;
        viable = refl;
        plain = (plain, tt);
        stuck =
            λ w others after k. absurd cc;
      }
  one_stops (s ∷ ss) rest e = elim (chosen (test s) (Ok (s, ss)) (Err (s ∷ ss)) (Err rest) e) [
    | inl h ↦ absurd (let wrong = h.1 in cc)
    | inr h ↦ (let same = h.1 in let is : s ∷ ss ≡ rest = cc in record {
      front = [];
      split = is;
      more = some ∷ [];
      tree = some;
      fits = good;
      viable = refl;
      plain = (plain, tt);
      stuck = λ w others after k. let head : s ≡ w = cc in rw (sym (ap test head) ∙ h.0) refl;
    })
  ]

  one_again : (t : S) (rest : List S) → Passes test t → Free t rest → one_at test (just t ++ rest) ≡ Ok (t, rest)
  unfolding one_at
  one_again t rest p g = rw p refl

  -- one sign that passes
  pub one_exact : Exact Q just (Passes test) Free (one_at test)
  one_exact = record {
    takes = one_takes;
    again = one_again;
    stops = one_stops;
    heads = λ t w more after g. tt;
    some = some;
    some_fits = good;
    some_plain = (plain, tt);
  }

module _ {S : Type 0} (Q : S → Type 0) (first test : S → Bool) (some : S) (good : first some ≡ true) (plain : Q some) (sub : (s : S) →
    first s ≡ true → test s ≡ true) where
  run_is : (ss : List S) → next_is first ss ≡ true → IsRun first test (run test ss)
  run_is [] h = absurd cc
  run_is (s ∷ ss) h = let k = sub s h in rw k (h, run_passes test ss)

  run_takes : (ss w rest : List S) → run_at first test ss ≡ Ok (w, rest) → (ss ≡ w ++ rest) × IsRun first test w × Apart test w rest
  unfolding run_at
  run_takes ss w rest e =
      elim (chosen (next_is first ss) (Ok (run test ss, behind_run test ss)) (Err ss) (Ok (w, rest)) e) [
        | inl h ↦ (let one : List S × List S = (run test ss, behind_run test ss) in
            subst (λ (z : List S × List S). (ss ≡ z.0 ++ z.1) × IsRun first test z.0 × Apart test z.0 z.1) (ok_is one (w, rest) h.1)
            (run_splits test ss, run_is ss h.0, run_stops test ss))
        | inr h ↦ absurd (let wrong = h.1 in cc)
      ]

  run_reads : (w rest : List S) → IsRun first test w → Apart test w rest → run_at first test (w ++ rest) ≡ Ok (w, rest)
  unfolding run_at
  run_reads [] rest p g = absurd p
  run_reads (s ∷ w) rest p g = let k = run_again test w rest p.1 g in let h = sub s p.0 in rw (p.0, h, k.0, k.1) refl

  run_halts : (ss rest : List S) → run_at first test ss ≡ Err rest → Stops Q itself (IsRun first test) (run_at first test) ss rest
  unfolding run_at
  run_halts ss rest e =
      elim (chosen (next_is first ss) (Ok (run test ss, behind_run test ss)) (Err ss) (Err rest) e) [
        | inl h ↦ absurd (let wrong = h.1 in cc)
        | inr h ↦ (let same = h.1 in let is : ss ≡ rest = cc in record {
          front = [];
          split = is;
          more = some ∷ [];
          tree = some ∷ [];
          fits = (good, tt);
          viable = refl;
          plain = (plain, tt);
          stuck = λ w others after k. let miss : first w ≡ false = sym (ap (next_is first) (is ∙ k)) ∙ h.0 in rw miss refl;
        })
      ]

  -- the longest run
  pub run_exact : Exact Q itself (IsRun first test) (Apart test) (run_at first test)
  run_exact = record {
    takes = run_takes;
    again = run_reads;
    stops = run_halts;
    heads = λ t w more after g. g;
    some = some ∷ [];
    some_fits =
        (good, tt);
    some_plain = (plain, tt);
  }

-- the longest front of signs that pass
pub front_exact : {S : Type 0} (Q : S → Type 0) (test : S → Bool) → Exact Q itself (EachPasses test) (Apart test) (front_at test)
unfolding front_at
front_exact {S} Q test = record {
  takes = takes;
  again = λ w rest p g. let k = run_again test w rest p g in rw (k.0, k.1) refl;
  stops = λ ss rest e. absurd cc;
  heads = λ t w more after g. g;
  some = [];
  some_fits = tt;
  some_plain = tt;
}
  where
    takes : (ss w rest : List S) → front_at test ss ≡ Ok (w, rest) → (ss ≡ w ++ rest) × EachPasses test w × Apart test w rest
    takes ss w rest e =
        let one : List S × List S = (run test ss, behind_run test ss) in
        subst (λ (z : List S × List S). (ss ≡ z.0 ++ z.1) × EachPasses test z.0 × Apart test z.0 z.1) (ok_is one (w, rest) e)
        (run_splits test ss, run_passes test ss, run_stops test ss)

-- nothing, and no sign that passes behind it
pub absent_exact : {S : Type 0} (Q : S → Type 0) (test : S → Bool) → Exact Q nothing All (Apart test) (absent_at test)
unfolding absent_at
absent_exact {S} Q test = record {
  takes = λ ss t rest e. elim (chosen (next_is test ss) (Err ss) (Ok (tt, ss)) (Ok (t, rest)) e) [
    | inl h ↦ absurd (let wrong = h.1 in cc)
    | inr h ↦ (let is : ss ≡ rest = ap (λ (z : Unit {0} × List S). z.1) (ok_is (tt, ss) (t, rest) h.1) in
        (is, tt, subst (λ (z : List S). next_is test z ≡ false) is h.0))
  ];
  again = λ t rest p g. rw g refl;
  stops = λ ss rest e. elim (chosen (next_is test ss) (Err ss) (Ok (tt, ss)) (Err rest) e) [
    | inl h ↦ (let same = h.1 in let is : ss ≡ rest = cc in record {
      front = [];
      split = is;
      more = [];
      tree = tt;
      fits = tt;
      viable = refl;
      plain = tt;
      stuck = λ w others after k. let hit : test w ≡ true = sym (ap (next_is test) (is ∙ k)) ∙ h.0 in rw hit refl;
    })
    | inr h ↦ absurd (let wrong = h.1 in cc)
  ];
  heads = λ t w more after g. g;
  some = tt;
  some_fits = tt;
  some_plain = tt;
}
