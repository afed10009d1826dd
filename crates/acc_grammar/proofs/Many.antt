-- Items as long as one starts: exact where the item is, and what a loop over them keeps.
use Rattle.std.proofs.Common.{◌≡◌, ℕ, zero, suc, ◌<◌, ◌≤◌, Bool, true, false, cond, List, [], ◌∷◌, ◌++◌, length, Ok, Err, refl, sym}
use Rattle.std.proofs.Common.{ap}
use Rattle.std.proofs.Common.{subst, ◌∙◌, append_assoc, arith, inl, inr, length-append}
use Rattle.std.proofs.lemmas.List.{append-nil}
use Rattle.acc_grammar.specs.Readers.{AllIn, OutcomeOf, ◌>>=◌, joined, item_and, many_for, many}
use Rattle.acc_grammar.proofs.Exact.{ok_is, bind_ok, bind_err, Exact, heads_behind, ByHead, chosen, test_behind}

-- the reader of items uses up words
abbrev pub Shrinks : {S T : Type 0} → (List S → OutcomeOf S T) → Type 0
Shrinks {S} {T} item = (ws : List S) (t : T) (rest : List S) → item ws ≡ Ok (t, rest) → length rest < length ws

pub tails : {S T : Type 0} (starts : List S → Bool) (item : List S → OutcomeOf S T) (n m : ℕ) (ws : List S) (r : OutcomeOf S T) →
    item ws ≡ r → ((t : T) (rest : List S) → item ws ≡ Ok (t, rest) → many_for n starts item rest ≡ many_for m starts item rest) →
    item_and (many_for n starts item) r ≡ item_and (many_for m starts item) r
tails starts item n m ws (Ok x) is h = rw (h x.0 x.1 is) refl
tails starts item n m ws (Err e) is h = refl

abbrev chosen_of : {S T : Type 0} → Bool → List S → OutcomeOf S (List T) → OutcomeOf S (List T)
chosen_of b ws z = cond b z (Ok ([], ws))

pub enough : {S T : Type 0} (starts : List S → Bool) (item : List S → OutcomeOf S T) (short : Shrinks item)
    (nothing : starts [] ≡ false)
    (n m : ℕ) (ws : List S) → length ws ≤ n → length ws ≤ m → many_for n starts item ws ≡ many_for m starts item ws
unfolding many_for
enough starts item short nothing zero zero ws a b = refl
enough starts item short nothing zero (suc m) [] a b = rw nothing refl
enough starts item short nothing zero (suc m) (w ∷ ws) a b = absurd (omega arith)
enough starts item short nothing (suc n) zero [] a b = rw nothing refl
enough starts item short nothing (suc n) zero (w ∷ ws) a b = absurd (omega arith)
enough starts item short nothing (suc n) (suc m) ws a b =
    ap (chosen_of (starts ws) ws) (tails starts item n m ws (item ws) refl (λ t rest is. let fewer = short ws t rest is in
    enough starts item short nothing n m rest (omega arith) (omega arith)))

-- one step
pub many_step : {S T : Type 0} (starts : List S → Bool) (item : List S → OutcomeOf S T) (short : Shrinks item)
    (nothing : starts [] ≡ false)
    (ws : List S) (t : T) (rest : List S) → starts ws ≡ true → item ws ≡ Ok (t, rest) →
    many starts item ws ≡ (many starts item rest >>= (λ xs. Ok (t ∷ xs.0, xs.1)))
unfolding many many_for
many_step starts item short nothing [] t rest s e = absurd cc
many_step starts item short nothing (w ∷ ws) t rest s e =
    let fewer = short (w ∷ ws) t rest e in
    rw (s, e, enough starts item short nothing (length ws) (length rest) rest (omega arith) (omega arith)) refl

pub many_err : {S T : Type 0} (starts : List S → Bool) (item : List S → OutcomeOf S T) (nothing : starts [] ≡ false)
    (ws rest : List S) →
    starts ws ≡ true → item ws ≡ Err rest → many starts item ws ≡ Err rest
unfolding many many_for
many_err starts item nothing [] rest s e = absurd cc
many_err starts item nothing (w ∷ ws) rest s e = rw (s, e) refl

pub many_none : {S T : Type 0} (starts : List S → Bool) (item : List S → OutcomeOf S T) (ws : List S) → starts ws ≡ false →
    many starts item ws ≡ Ok ([], ws)
unfolding many many_for
many_none starts item [] s = refl
many_none starts item (w ∷ ws) s = rw s refl

-- ---- what a loop keeps

abbrev pub with_front : {S T : Type 0} → List T → OutcomeOf S (List T) → OutcomeOf S (List T)
with_front front read = read >>= λ x. Ok (front ++ x.0, x.1)

regroup : {S T : Type 0} (front : List T) (t : T) (read : OutcomeOf S (List T)) →
    with_front front (read >>= λ x. Ok (t ∷ x.0, x.1)) ≡ with_front (front ++ t ∷ []) read
regroup front t (Ok x) = ap (λ (ts : List _). Ok (ts, x.1)) (simp append_assoc)
regroup front t (Err f) = refl

pub goes_on : {S T : Type 0} (starts : List S → Bool) (item : List S → OutcomeOf S T) (short : Shrinks item)
    (nothing : starts [] ≡ false)
    (front : List T) (ws : List S) (t : T) (after : List S) (total : OutcomeOf S (List T)) → starts ws ≡ true →
    item ws ≡ Ok (t, after) →
    with_front front (many starts item ws) ≡ total → with_front (front ++ t ∷ []) (many starts item after) ≡ total
goes_on starts item short nothing front ws t after total s e so_far =
    sym (ap (with_front front) (many_step starts item short nothing ws t after s e) ∙ regroup front t (many starts item after)) ∙
    so_far

pub ends : {S T : Type 0} (starts : List S → Bool) (item : List S → OutcomeOf S T) (nothing : starts [] ≡ false) (front : List T)
    (ws rest : List S) (total : OutcomeOf S (List T)) → starts ws ≡ true → item ws ≡ Err rest →
    with_front front (many starts item ws) ≡ total → total ≡ Err rest
ends starts item nothing front ws rest total s e so_far =
    sym so_far ∙ ap (with_front front) (many_err starts item nothing ws rest s e)

pub is_done : {S T : Type 0} (starts : List S → Bool) (item : List S → OutcomeOf S T) (front : List T) (ws : List S)
    (total : OutcomeOf S (List T)) → starts ws ≡ false → with_front front (many starts item ws) ≡ total → total ≡ Ok (front, ws)
is_done starts item front ws total s so_far = sym so_far ∙ ap (with_front front) (many_none starts item ws s) ∙ ap
    (λ (ts : List _). Ok (ts, ws)) (append-nil front)

-- ---- exact

-- each is followed by what may follow it, and at the end none starts
abbrev pub Runs : {S T : Type 0} → (T → List S) → (List S → Bool) → (T → List S → Type 0) → List T → List S → Type 0
Runs spell starts goes [] rest = starts rest ≡ false
Runs spell starts goes (t ∷ ts) rest = goes t (joined spell ts ++ rest) × Runs spell starts goes ts rest

module _ {S T : Type 0} {Q : S → Type 0} {spell : T → List S} {P : T → Type 0} {goes : T → List S → Type 0} {item : List S →
    OutcomeOf S T}
    (e : Exact Q spell P goes item) (starts : List S → Bool) (head : ByHead starts) (nothing : starts [] ≡ false)
    (yes : (t : T) (rest : List S) → P t → goes t rest → starts (spell t ++ rest) ≡ true) (long : (t : T) → P t →
    0 < length (spell t))
  where
    pub item_shrinks : Shrinks item
    item_shrinks ws t rest h =
        let k = e.takes ws t rest h in
        let l = long t k.1 in
        omega (arith, ap length k.0, length-append (spell t) rest)

    takes_for : (n : ℕ) (ws : List S) (ts : List T) (rest : List S) → length ws ≤ n → many_for n starts item ws ≡ Ok (ts, rest) →
        (ws ≡ joined spell ts ++ rest) × AllIn P ts × Runs spell starts goes ts rest
    unfolding many_for
    takes_for zero [] ts rest le h =
        subst (λ (z : List T × List S). ([] ≡ joined spell z.0 ++ z.1) × AllIn P z.0 × Runs spell starts goes z.0 z.1)
        (ok_is ([], []) (ts, rest) h) (refl, tt, nothing)
    takes_for zero (w ∷ ws) ts rest le h = absurd (omega arith)
    takes_for (suc n) ws ts rest le h =
        elim (chosen (starts ws) (item_and (many_for n starts item) (item ws)) (Ok ([], ws)) (Ok (ts, rest)) h) [
          | inl k ↦ (
              let x = bind_ok (item ws) (λ x. many_for n starts item x.1 >>= (λ xs. Ok (x.0 ∷ xs.0, xs.1))) (ts, rest) k.1 in
              let y = bind_ok (many_for n starts item x.0.1) (λ xs. Ok (x.0.0 ∷ xs.0, xs.1)) (ts, rest) x.2 in
              let fewer = item_shrinks ws x.0.0 x.0.1 x.1 in
              let a = e.takes ws x.0.0 x.0.1 x.1 in
              let b = takes_for n x.0.1 y.0.0 y.0.1 (omega arith) y.1 in
              let one : List T × List S = (x.0.0 ∷ y.0.0, y.0.1) in
              let whole : ws ≡ joined spell one.0 ++ one.1 =
              a.0 ∙ ap (λ (z : List S). spell x.0.0 ++ z) b.0 ∙ sym (append_assoc (spell x.0.0) (joined spell y.0.0) y.0.1) in
              subst (λ (z : List T × List S). (ws ≡ joined spell z.0 ++ z.1) × AllIn P z.0 × Runs spell starts goes z.0 z.1)
              (ok_is one (ts, rest) y.2) (whole, (a.1, b.1), (subst (goes x.0.0) b.0 a.2, b.2)))
          | inr k ↦ subst (λ (z : List T × List S). (ws ≡ joined spell z.0 ++ z.1) × AllIn P z.0 × Runs spell starts goes z.0 z.1)
              (ok_is ([], ws) (ts, rest) k.1) (refl, tt, k.0)
        ]

    again_for : (n : ℕ) (ts : List T) (rest : List S) → length (joined spell ts ++ rest) ≤ n → AllIn P ts →
        Runs spell starts goes ts rest →
        many_for n starts item (joined spell ts ++ rest) ≡ Ok (ts, rest)
    unfolding many_for
    again_for zero [] rest le p g = refl
    again_for (suc n) [] rest le p g = rw g refl
    again_for zero (t ∷ ts) rest le p g = absurd (let l = long t p.0 in
        omega (arith, length-append (spell t ++ joined spell ts) rest, length-append (spell t) (joined spell ts)))
    again_for (suc n) (t ∷ ts) rest le p g =
        let l = long t p.0 in
        let regrouped = append_assoc (spell t) (joined spell ts) rest in
        let fewer : length (joined spell ts ++ rest) ≤ n =
        omega (arith, ap length regrouped, length-append (spell t) (joined spell ts ++ rest)) in
        ap (many_for (suc n) starts item) regrouped ∙ rw (
          yes t (joined spell ts ++ rest) p.0 g.0,
          e.again t (joined spell ts ++ rest) p.0 g.0,
          again_for n ts rest fewer p.1 g.1,
        ) refl

    record StopsFor (ws rest : List S) : Type 0 where
      pub front : List S
      pub split : ws ≡ front ++ rest
      pub more : List S
      pub trees : List T
      pub fits : AllIn P trees
      pub viable : front ++ more ≡ joined spell trees
      pub plain : AllIn Q more
      pub stuck : (w : S) (others after : List S) (m : ℕ) → rest ≡ w ∷ others → length (front ++ (w ∷ after)) ≤ m →
          many_for m starts item (front ++ (w ∷ after)) ≡ Err (w ∷ after)

    nonempty : (front : List S) (w : S) (after : List S) → 0 < length (front ++ (w ∷ after))
    nonempty front w after = omega (arith, length-append front (w ∷ after))

    stuck_here : (front : List S) (w : S) (others after : List S) (m : ℕ) → starts (front ++ (w ∷ others)) ≡ true →
        item (front ++ (w ∷ after)) ≡ Err (w ∷ after) → length (front ++ (w ∷ after)) ≤ m →
        many_for m starts item (front ++ (w ∷ after)) ≡ Err (w ∷ after)
    unfolding many_for
    stuck_here front w others after zero s h le = absurd (omega (arith, nonempty front w after))
    stuck_here front w others after (suc m) s h le = rw (sym (test_behind starts head front w others after) ∙ s, h) refl

    stuck_behind : (t : T) (front : List S) (w : S) (after : List S) (m : ℕ) → P t → goes t (front ++ (w ∷ after)) →
        ((n : ℕ) → length (front ++ (w ∷ after)) ≤ n → many_for n starts item (front ++ (w ∷ after)) ≡ Err (w ∷ after)) →
        length ((spell t ++ front) ++ (w ∷ after)) ≤ m → many_for m starts item ((spell t ++ front) ++ (w ∷ after)) ≡ Err (w ∷ after)
    unfolding many_for
    stuck_behind t front w after zero p g h le = absurd (omega (arith, nonempty (spell t ++ front) w after))
    stuck_behind t front w after (suc m) p g h le =
        let regrouped = append_assoc (spell t) front (w ∷ after) in
        let l = long t p in
        let fewer : length (front ++ (w ∷ after)) ≤ m =
        omega (arith, ap length regrouped, length-append (spell t) (front ++ (w ∷ after))) in
        ap (many_for (suc m) starts item) regrouped ∙ rw (
          yes t (front ++ (w ∷ after)) p g,
          e.again t (front ++ (w ∷ after)) p g,
          h m fewer,
        )
        refl

    stops_for : (n : ℕ) (ws rest : List S) → length ws ≤ n → many_for n starts item ws ≡ Err rest → StopsFor ws rest
    unfolding many_for
    stops_for zero ws rest le h = absurd cc
    stops_for (suc n) ws rest le h =
        elim (chosen (starts ws) (item_and (many_for n starts item) (item ws)) (Ok ([], ws)) (Err rest) h) [
          | inl k ↦ elim (bind_err (item ws) (λ x. many_for n starts item x.1 >>= (λ xs. Ok (x.0 ∷ xs.0, xs.1))) rest k.1) [
            | inl a ↦ (let s = e.stops ws rest a in record {
              front = s.front;
              split = s.split;
              more = s.more;
              trees = s.tree ∷ [];
              fits = (s.fits, tt);
              viable = s.viable ∙ sym (append-nil (spell s.tree));
              plain = s.plain;
              stuck = λ w others after m is le'. stuck_here s.front w others after m
                  (sym (ap starts (s.split ∙ ap (λ (z : List S). s.front ++ z) is)) ∙ k.0) (s.stuck w others after is) le';
            })
            | inr a ↦ elim (bind_err (many_for n starts item a.0.1) (λ xs. Ok (a.0.0 ∷ xs.0, xs.1)) rest a.2) [
              | inl b ↦ (
                  let fewer = item_shrinks ws a.0.0 a.0.1 a.1 in
                  let t = e.takes ws a.0.0 a.0.1 a.1 in
                  let s = stops_for n a.0.1 rest (omega arith) b in record {
                    front = spell a.0.0 ++ s.front;
                    split = t.0 ∙ ap (λ (z : List S). spell a.0.0 ++ z) s.split ∙ sym (append_assoc (spell a.0.0) s.front rest);
                    more = s.more;
                    trees = a.0.0 ∷ s.trees;
                    fits = (t.1, s.fits);
                    viable = append_assoc (spell a.0.0) s.front s.more ∙ ap (λ (z : List S). spell a.0.0 ++ z) s.viable;
                    plain = s.plain;
                    stuck = λ w others after m is le'. stuck_behind a.0.0 s.front w after m t.1
                        (heads_behind e a.0.0 s.front w others after
                        (subst (goes a.0.0) (s.split ∙ ap (λ (z : List S). s.front ++ z) is) t.2))
                        (λ j lj. s.stuck w others after j is lj)
                        le';
                  })
              | inr b ↦ absurd (let wrong = b.2 in cc)
            ]
          ]
          | inr k ↦ absurd (let wrong = k.1 in cc)
        ]

    runs_heads : (ts : List T) (w : S) (more after : List S) → Runs spell starts goes ts (w ∷ more) →
        Runs spell starts goes ts (w ∷ after)
    runs_heads [] w more after h = sym (head w more after) ∙ h
    runs_heads (t ∷ ts) w more after h = (heads_behind e t (joined spell ts) w more after h.0, runs_heads ts w more after h.1)

    pub many_exact : Exact Q (joined spell) (AllIn P) (Runs spell starts goes) (many starts item)
    unfolding many
    many_exact = record {
      takes = λ ws ts rest h. takes_for (length ws) ws ts rest (omega arith) h;
      again = λ ts rest p g. again_for (length (joined spell ts ++ rest)) ts rest (omega arith) p g;
      stops = λ ws rest h. let s = stops_for (length ws) ws rest (omega arith) h in record {
        front = s.front;
        split = s.split;
        more = s.more;
        tree = s.trees;
        fits = s.fits;
        viable = s.viable;
        plain = s.plain;
        stuck = λ w others after is. s.stuck w others after (length (s.front ++ (w ∷ after))) is (omega arith);
      };
      heads = runs_heads;
      some = [];
      some_fits = tt;
      some_plain = tt;
    }
