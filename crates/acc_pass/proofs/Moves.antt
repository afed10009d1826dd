-- Each kind of step keeps the rule.
use Rattle.std.proofs.Common.{◌≡◌, ◌≢◌, ◌⊎◌, ℕ, zero, suc, ◌+◌, ◌*◌, ◌%◌, ◌^◌, ◌<◌, ◌||◌, leb, List, [], ◌∷◌, ◌++◌, length, set, Bool}
use Rattle.std.proofs.Common.{true, false, true≢false, refl, sym, ap, ◌∙◌, subst, inl, inr, ⊎_elim, arith, length-append}
use Rattle.std.specs.Prelude.{slice_index, bit_or}
use Rattle.std.specs.List.{Contains, sum_by}
use Rattle.std.proofs.lemmas.List.Elements.{Contains-append_cases}
use Rattle.std.proofs.lemmas.List.Sums.{sum_by_push}
use Rattle.std.proofs.lemmas.Option.{slice_get_within}
use Rattle.std.proofs.lemmas.Bool.Decides.{nat_tests}
use Rattle.std.proofs.lemmas.Nat.{or_comm, or_shifted, or_block}
use mathlib.Core.Option.{some, some-ne-none, some-injective}
use mathlib.Core.List.{IsPrefix}
use lib.ListN.{get_elem?}
use Rattle.atomic_table.specs.Table.{State, Me, Allows, Splits, Joins, keeps, opening}
use Rattle.atomic_table.proofs.Lists.{at_set, set_else, set_here, at_longer, at_last}
use Rattle.acc_base.specs.declared.machines.Event.{Event}
use Rattle.acc_pass.specs.declared.views.Known.{Known}
use Rattle.acc_pass.specs.declared.views.View.{View}
use Rattle.acc_pass.specs.Histories.{longer, Closed, Placed, times, MayAppend}
use Rattle.acc_pass.specs.Rules.{known, nothing, calm, first_view, spent_view, joined, kept_half, new_half, word_of}
use Rattle.acc_pass.specs.Rules.{Told, Fits, Kept, Knows, appended, noted, Noted, broke}
use Rattle.acc_pass.proofs.Lists.{prefix_self, prefix_trans, prefix_get, prefix_length, prefix_snoc, longer_left, longer_right}
use Rattle.acc_pass.proofs.Lists.{longer_within, longer_whole, in_none, in_one, at_snoc_here, at_within, sum_set, sum_one, sum_two}
use Rattle.acc_pass.proofs.Lists.{sum_none, times-append, times_same, times_else, in_times, times_none}
use Rattle.acc_pass.proofs.Owning.{placed_up, closed_down, closed_other, closed_own, placed_own, closed_both}

off : false ≡ true → ⊥
off e = true≢false (sym e)

-- a fact of each view, where one has changed
set_all : (P : ℕ → View → Type 0) (views : List View) (by : ℕ) (w : View)
    → ((j : ℕ) (u : View) → j ≢ by → get_elem? views j ≡ some u → P j u) → P by w → (j : ℕ) (u : View)
    → get_elem? (set views by w) j ≡ some u → P j u
set_all P views by w others mine j u e =
    ⊎_elim
    (λ (x : (j ≡ by) × (w ≡ u)). subst (λ (y : ℕ × View). P y.0 y.1) (λ i. (sym x.0 i, x.1 i)) mine)
    (λ (x : (j ≢ by) × (get_elem? views j ≡ some u)). others j u x.0 x.1)
    (at_set views by j w u e)

told_nothing : (k : Known) → Told nothing k
told_nothing k = ((k.seen, refl), (λ e. absurd (off e)), (λ e. absurd (off e)))

-- the word
index_one : (ws : List ℕ) (n : ℕ) → ws ≡ n ∷ [] → slice_index ws 0 ≡ n
index_one ws n e = ap (λ (l : List ℕ). slice_index l 0) e

set_one : (ws : List ℕ) (n m : ℕ) → ws ≡ n ∷ [] → set ws 0 m ≡ m ∷ []
set_one ws n m e = ap (λ (l : List ℕ). set l 0 m) e

top_found : (log : List Event) (b : Bool) → length log < 2 ^ 63 → leb (2 ^ 63) (word_of log b) ≡ b
top_found log true h = grind (arith, nat_tests)
top_found log false h = grind (arith, nat_tests)

word_more : (log : List Event) (e : Event) (b : Bool) → length log < 2 ^ 62
    → (word_of log b + 1) % 2 ^ 64 ≡ word_of (log ++ e ∷ []) b
word_more log e true h = let l = length-append log (e ∷ []) in omega arith
word_more log e false h = let l = length-append log (e ∷ []) in omega arith

or_top : (n : ℕ) → n < 2 ^ 63 → bit_or n (2 ^ 63) ≡ n + 2 ^ 63
or_top n h = let r : bit_or (1 * 2 ^ 63) n ≡ 1 * 2 ^ 63 + n = or_shifted 1 63 n h in or_comm n (2 ^ 63) ∙ r ∙ omega arith

or_top_again : (n : ℕ) → n < 2 ^ 63 → bit_or (n + 2 ^ 63) (2 ^ 63) ≡ n + 2 ^ 63
or_top_again n h =
    let r : bit_or (1 * 2 ^ 63 + n) (1 * 2 ^ 63 + 0) ≡ bit_or 1 1 * 2 ^ 63 + bit_or n 0 = or_block 63 1 1 n 0 h (omega arith) in
    let z : bit_or n 0 ≡ n = or_comm n 0 in
    let s : n + 2 ^ 63 ≡ 1 * 2 ^ 63 + n = omega arith in
    ap (λ (m : ℕ). bit_or m (2 ^ 63)) s ∙ r ∙ ap (λ (m : ℕ). 2 ^ 63 + m) z ∙ omega arith

word_broken : (log : List Event) (b : Bool) → length log < 2 ^ 63
    → bit_or (word_of log b) (2 ^ 63) ≡ word_of log true
word_broken log true h = or_top_again (length log) h
word_broken log false h = ap (λ (n : ℕ). bit_or n (2 ^ 63)) (omega arith) ∙ or_top (length log) h

abbrev size : ℕ → View → ℕ
size k v = times k v.now.mine

-- the keeper's seat is none without the mark
not_keeper : (seat : ℕ) (views : List View) (id : ℕ) (v : View)
    → ((k : View) × (get_elem? views seat ≡ some k) × (k.now.keeps ≡ true)) → get_elem? views id ≡ some v → (v.now.keeps ≡ true → ⊥)
    → seat ≢ id
not_keeper seat views id v k at none e =
    let same : k.0 ≡ v = some-injective _ _ (sym k.1 ∙ ap (λ (i : ℕ). get_elem? views i) e ∙ at) in
    none (subst (λ (u : View). u.now.keeps ≡ true) same k.2)

-- the keeper is there after a change
keeper_after : (seat : ℕ) (views : List View) (id : ℕ) (v w : View) → get_elem? views id ≡ some v
    → ((k : View) × (get_elem? views seat ≡ some k) × (k.now.keeps ≡ true)) → (v.now.keeps ≡ true → w.now.keeps ≡ true)
    → (k : View) × (get_elem? (set views id w) seat ≡ some k) × (k.now.keeps ≡ true)
keeper_after seat views id v w at k stays =
    elim (native.Mathlib.Decide.ℕ_discrete seat id) [
      | yes e ↦ (
        w,
        subst (λ (i : ℕ). get_elem? (set views id w) i ≡ some w) (sym e) (set_here views id w (at_within views id v at)),
        stays (subst (λ (u : View). u.now.keeps ≡ true) (some-injective _ _ (sym k.1 ∙ ap (λ (i : ℕ). get_elem? views i) e ∙ at)) k.2),
      )
      | no n ↦ (k.0, set_else views id seat w n ∙ k.1, k.2)
    ]

told_on : (a b c : Known) → Told a b → IsPrefix b.seen c.seen → (b.broken ≡ true → c.broken ≡ true)
    → (b.keeps ≡ true → (c.keeps ≡ true) × (c.broken ≡ b.broken) × (c.seen ≡ b.seen)) → Told a c
told_on a b c t p more same = (
  prefix_trans a.seen b.seen c.seen t.0 p,
  (λ e. more (t.1 e)),
  (λ k. let x = t.2 k in let y = same x.0 in (y.0, y.1 ∙ x.1, y.2 ∙ x.2)),
)

-- the two halves, where the mark isn't there
halves_fit : (seat seat' : ℕ) (log : List Event) (broken : Bool) (id id' : ℕ) (v : View) → Fits seat log broken id v
    → (v.now.keeps ≡ true → id' ≡ seat') → Fits seat' log broken id' (new_half v)
halves_fit seat seat' log broken id id' v old here = record {
  keeps = λ k. (here k, (old.keeps k).1, (old.keeps k).2);
  seen = old.seen;
  broken_only = old.broken_only;
  placed = λ k f i. absurd (in_none _ i);
  closed = λ t j e o at m. absurd (in_none _ o.stands);
  left = told_nothing (new_half v).now;
  right = told_nothing (new_half v).now;
}

fits_left : (seat : ℕ) (log : List Event) (broken : Bool) (id : ℕ) (v : View) → Fits seat log broken id v
    → Fits seat log broken id (kept_half v)
fits_left seat log broken id v old = record {
  keeps = λ k. absurd (off k);
  seen = old.seen;
  broken_only = old.broken_only;
  placed = old.placed;
  closed = old.closed;
  left = told_nothing (kept_half v).now;
  right = told_nothing (kept_half v).now;
}

-- the mark is somewhere else now
moved : (seat seat' : ℕ) (log : List Event) (broken : Bool) (by : ℕ) (v : View) → (v.now.keeps ≡ true → by ≡ seat')
    → Fits seat log broken by v → Fits seat' log broken by v
moved seat seat' log broken by v here old = record {
  keeps = λ k. (here k, (old.keeps k).1, (old.keeps k).2);
  seen = old.seen;
  broken_only = old.broken_only;
  placed = old.placed;
  closed = old.closed;
  left = old.left;
  right = old.right;
}

fits_nothing : (seat : ℕ) (log : List Event) (broken : Bool) (by : ℕ) → Fits seat log broken by spent_view
fits_nothing seat log broken by = record {
  keeps = λ k. absurd (off k);
  seen = (log, refl);
  broken_only = λ b. absurd (off b);
  placed = λ k f i. absurd (in_none _ i);
  closed = λ t j e o at m. absurd (in_none _ o.stands);
  left = told_nothing nothing;
  right = told_nothing nothing;
}

all_snoc : (P : ℕ → View → Type 0) (views : List View) (w : View) → ((j : ℕ) (u : View) → get_elem? views j ≡ some u → P j u)
    → P (length views) w → (j : ℕ) (u : View) → get_elem? (views ++ w ∷ []) j ≡ some u → P j u
all_snoc P views w others mine j u e =
    ⊎_elim
    (λ (x : get_elem? views j ≡ some u). others j u x)
    (λ (x : (j ≡ length views) × (w ≡ u)). subst (λ (y : ℕ × View). P y.0 y.1) (λ i. (sym x.0 i, x.1 i)) mine)
    (at_snoc_here views w u j e)

or_left : (a b : Bool) → a ≡ true → (a || b) ≡ true
or_left true b e = refl
or_left false b e = absurd (off e)

or_right : (a b : Bool) → b ≡ true → (a || b) ≡ true
or_right true b e = refl
or_right false b e = e

or_either : (a b : Bool) → (a || b) ≡ true → (a ≡ true) ⊎ (b ≡ true)
or_either true b e = inl refl
or_either false b e = inr e

or_first : (a b : Bool) → (b ≡ true → a ≡ true) → (a || b) ≡ a
or_first true b h = refl
or_first false true h = absurd (off (h refl))
or_first false false h = refl

or_second : (a b : Bool) → (a ≡ true → b ≡ true) → (a || b) ≡ b
or_second true true h = refl
or_second true false h = absurd (off (h refl))
or_second false b h = refl

-- two views of one history, joined
fits_joined : (seat seat' : ℕ) (log : List Event) (broken : Bool) (id other : ℕ) (v w : View) → Fits seat log broken id v
    → Fits seat log broken other w → ((v.now.keeps || w.now.keeps) ≡ true → id ≡ seat') → Fits seat' log broken id (joined v w)
fits_joined seat seat' log broken id other v w p q here = record {
  keeps = λ k. (
    here k,
    longer_whole v.now.seen w.now.seen log p.seen q.seen
        (⊎_elim (λ a. inl (p.keeps a).1) (λ b. inr (q.keeps b).1) (or_either v.now.keeps w.now.keeps k)),
    ⊎_elim
        (λ (a : v.now.keeps ≡ true). or_first v.now.broken w.now.broken (λ b. (p.keeps a).2 ∙ q.broken_only b) ∙ (p.keeps a).2)
        (λ (a : w.now.keeps ≡ true). or_second v.now.broken w.now.broken (λ b. (q.keeps a).2 ∙ p.broken_only b) ∙ (q.keeps a).2)
        (or_either v.now.keeps w.now.keeps k),
  );
  seen = longer_within v.now.seen w.now.seen log p.seen q.seen;
  broken_only = λ b. ⊎_elim p.broken_only q.broken_only (or_either v.now.broken w.now.broken b);
  placed = λ k f i.
      let both = longer v.now.seen w.now.seen in
      ⊎_elim
      (λ (a : Contains v.now.mine (k, f)).
      prefix_get v.now.seen both k f (longer_left v.now.seen w.now.seen log p.seen q.seen) (p.placed k f a))
      (λ (a : Contains w.now.mine (k, f)).
      prefix_get w.now.seen both k f (longer_right v.now.seen w.now.seen log p.seen q.seen) (q.placed k f a))
      (Contains-append_cases v.now.mine w.now.mine (k, f) i);
  closed = closed_both log v.now.mine w.now.mine p.closed q.closed;
  left = (
    longer_left v.now.seen w.now.seen log p.seen q.seen,
    or_left v.now.broken w.now.broken,
    λ a. (
      or_left v.now.keeps w.now.keeps a,
      or_first v.now.broken w.now.broken (λ b. (p.keeps a).2 ∙ q.broken_only b),
      longer_whole v.now.seen w.now.seen log p.seen q.seen (inl (p.keeps a).1) ∙ sym (p.keeps a).1,
    ),
  );
  right = (
    longer_right v.now.seen w.now.seen log p.seen q.seen,
    or_right v.now.broken w.now.broken,
    λ a. (
      or_right v.now.keeps w.now.keeps a,
      or_second v.now.broken w.now.broken (λ b. (q.keeps a).2 ∙ p.broken_only b),
      longer_whole v.now.seen w.now.seen log p.seen q.seen (inr (q.keeps a).1) ∙ sym (q.keeps a).1,
    ),
  );
}

-- what is true of each pass stays true
pub knows_append : (start : List Event) (e : Event) (k : Known) → Knows start k → MayAppend k.seen k.mine e
    → Knows start (known k.keeps k.broken (k.seen ++ e ∷ []) (k.mine ++ (length k.seen, e) ∷ []))
knows_append start e k h may = record {
  begun = prefix_trans start k.seen (k.seen ++ e ∷ []) h.begun (prefix_snoc k.seen e);
  later = λ at f i.
      ⊎_elim
      (λ (a : Contains k.mine (at, f)). h.later at f a)
      (λ (a : Contains ((length k.seen, e) ∷ []) (at, f)).
      let n : length k.seen ≡ at = ap (λ (y : ℕ × Event). y.0) (in_one (length k.seen, e) (at, f) a) in
      let l = prefix_length start k.seen h.begun in omega arith)
      (Contains-append_cases k.mine ((length k.seen, e) ∷ []) (at, f) i);
  placed = placed_own k.seen e k.mine h.placed;
  closed = closed_own k.seen e k.mine h.placed may h.closed;
  once = λ at.
      let a = h.once at in
      elim (native.Mathlib.Decide.ℕ_discrete at (length k.seen)) [
        | yes q ↦ (let none : times at k.mine ≡ 0 =
            subst (λ (m : ℕ). times m k.mine ≡ 0) (sym q)
            (times_none (length k.seen) k.mine (λ i g is. slice_get_within k.seen i g (h.placed i g is))) in
            let one : times at (k.mine ++ (length k.seen, e) ∷ []) ≡ times at k.mine + 1 =
            subst (λ (m : ℕ). times at (k.mine ++ (m, e) ∷ []) ≡ times at k.mine + 1) q (times_same at k.mine e) in omega arith)
        | no q ↦ (let same = times_else at (length k.seen) k.mine e q in omega arith)
      ];
}

-- with the same beginning and places
pub knows_as : (start : List Event) (k : Known) (keeps broken : Bool) → Knows start k → Knows start (known keeps broken k.seen k.mine)
knows_as start k mark broken h = record { begun = h.begun; later = h.later; placed = h.placed; closed = h.closed; once = h.once }

pub knows_joined : (start : List Event) (a b : Known) (v : View) (found : ℕ) → Knows start a → Knows start b
    → v ≡ joined (calm a) (calm b) → (n : View) → Noted v found n → Knows start n.now
knows_joined start a b v found p q is n told =
    let both : Known = known (a.keeps || b.keeps) (leb (2 ^ 63) found) (longer a.seen b.seen) (a.mine ++ b.mine) in
    let shape : n.now ≡ both = ap (λ (x : View). x.now) told.0 ∙ ap (λ (x : View). (noted x found).now) is in
    let from : IsPrefix a.seen n.now.seen = subst (λ (x : View). IsPrefix x.left.seen n.now.seen) is told.1.0 in record {
      begun = prefix_trans start a.seen n.now.seen p.begun from;
      later = λ at f i.
          ⊎_elim (p.later at f) (q.later at f)
          (Contains-append_cases a.mine b.mine (at, f) (subst (λ (k : Known). Contains k.mine (at, f)) shape i));
      placed = told.4;
      closed = told.5;
      once = told.6;
    }

module _ {S : Type 0} (key : List Event) where
  -- the first view
  pub begins_with : (n : ℕ) → length key ≡ n → n < 2 ^ 63 → Kept {S = S} key (opening (n ∷ []) [] (first_view key))
  begins_with n len short = record {
    seat = 0;
    log = key;
    broken = false;
    word = ap (λ (m : ℕ). m ∷ []) (omega arith);
    short = omega arith;
    keeper = (first_view key, refl, refl);
    fits = one;
    apart = λ k. omega arith;
    old = prefix_self key;
  }
    where
      one : (by : ℕ) (v : View) → get_elem? (first_view key ∷ []) by ≡ some v → Fits 0 key false by v
      one zero v e = subst (Fits 0 key false 0) (some-injective _ _ e) (record {
        keeps = λ _. (refl, refl, refl);
        seen = prefix_self key;
        broken_only = λ b. b;
        placed = λ k f i. absurd (in_none _ i);
        closed = λ t j e o at m. absurd (in_none _ o.stands);
        left = told_nothing (known true false key []);
        right = told_nothing (known true false key []);
      })
      one (suc by) v e = absurd (some-ne-none v (sym e))

  -- a note
  pub notes : (slots id : ℕ) (me : Me S View) → Allows (Kept key) slots id me 0 (λ n. n) (λ n w. (w.1 ≡ me.1) × Noted me.0 n w.0)
  notes slots id me s h len at small =
      let v : View = me.0 in
      let n : ℕ = slice_index s.words 0 in
      let found : n ≡ word_of h.log h.broken = index_one s.words _ h.word in
      let top : leb (2 ^ 63) n ≡ h.broken = ap (λ (m : ℕ). leb (2 ^ 63) m) found ∙ top_found h.log h.broken h.short in
      let w : View = noted v n in
      let old : Fits h.seat h.log h.broken id v = h.fits id v at in
      let stays : v.now.keeps ≡ true → (w.now.keeps ≡ true) × (w.now.broken ≡ v.now.broken) × (w.now.seen ≡ v.now.seen) =
      λ k. (k, top ∙ sym (old.keeps k).2, refl) in
      let more : v.now.broken ≡ true → w.now.broken ≡ true = λ b. top ∙ old.broken_only b in
      let same : IsPrefix v.now.seen w.now.seen = prefix_self v.now.seen in (
        w,
        keeps,
        tt,
        record {
          seat = h.seat;
          log = h.log;
          broken = h.broken;
          word = set_one s.words _ n h.word ∙ ap (λ (m : ℕ). m ∷ []) found;
          short = h.short;
          keeper = keeper_after h.seat s.views id v w at h.keeper (λ k. k);
          fits = set_all (Fits h.seat h.log h.broken) s.views id w (λ j u _ e. h.fits j u e) (record {
            keeps = λ k. ((old.keeps k).0, (old.keeps k).1, top);
            seen = old.seen;
            broken_only = λ b. sym top ∙ b;
            placed = old.placed;
            closed = old.closed;
            left = told_nothing w.now;
            right = told_nothing w.now;
          });
          apart = λ k. let t = sum_set (size k) s.views id v w at in let a = h.apart k in omega arith;
          old = h.old;
        },
        (
          refl,
          (
            refl,
            told_on v.left v.now w.now old.left same more stays,
            told_on v.right v.now w.now old.right same more stays,
            (same, more, stays),
            old.placed,
            closed_down v.now.seen h.log v.now.mine old.seen old.placed old.closed,
            (λ k. let a = h.apart k in let t = sum_one (size k) s.views id v at in omega arith),
          ),
        ),
      )

  -- an append by the keeper
  pub appends : (e : Event) (slots id : ℕ) (me : Me S View) → me.0.now.keeps ≡ true → length me.0.now.seen < 2 ^ 62
      → MayAppend me.0.now.seen me.0.now.mine e
      → Allows (Kept key) slots id me 0 (λ n. (n + 1) % 2 ^ 64) (λ n w. (w.1 ≡ me.1) × (w.0 ≡ appended e me.0))
  appends e slots id me mark room may s h len at small =
      let v : View = me.0 in
      let n : ℕ = slice_index s.words 0 in
      let found : n ≡ word_of h.log h.broken = index_one s.words _ h.word in
      let w : View = appended e v in
      let old : Fits h.seat h.log h.broken id v = h.fits id v at in
      let here : id ≡ h.seat = (old.keeps mark).0 in
      let all : v.now.seen ≡ h.log = (old.keeps mark).1 in
      let few : length h.log < 2 ^ 62 = subst (λ (l : List Event). length l < 2 ^ 62) all room in
      let may' : MayAppend h.log v.now.mine e = subst (λ (l : List Event). MayAppend l v.now.mine e) all may in
      let placed : Placed h.log v.now.mine = placed_up v.now.seen h.log v.now.mine old.seen old.placed in
      let log' : List Event = h.log ++ e ∷ [] in
      let more : IsPrefix h.log log' = prefix_snoc h.log e in
      let seen' : v.now.seen ++ e ∷ [] ≡ log' = ap (λ (l : List Event). l ++ e ∷ []) all in (
        w,
        keeps,
        tt,
        record {
          seat = h.seat;
          log = log';
          broken = h.broken;
          word = set_one s.words _ ((n + 1) % 2 ^ 64) h.word
              ∙ ap (λ (m : ℕ). m ∷ []) (ap (λ (m : ℕ). (m + 1) % 2 ^ 64) found ∙ word_more h.log e h.broken few);
          short = let l = length-append h.log (e ∷ []) in omega arith;
          keeper = keeper_after h.seat s.views id v w at h.keeper (λ k. k);
          fits = set_all (Fits h.seat log' h.broken) s.views id w
              (λ j u apart f.
              let was = h.fits j u f in record {
                keeps = λ k. absurd (apart ((was.keeps k).0 ∙ sym here));
                seen = prefix_trans u.now.seen h.log log' was.seen more;
                broken_only = was.broken_only;
                placed = was.placed;
                closed = closed_other h.log e v.now.mine u.now.mine placed (placed_up u.now.seen h.log u.now.mine was.seen was.placed) may'
                    (λ k x' y' i i'.
                    let t = sum_two (size k) s.views id j v u (λ q. apart (sym q)) at f in
                    let a = h.apart k in
                    let x = in_times k x' v.now.mine i in
                    let y = in_times k y' u.now.mine i' in omega arith)
                    was.closed;
                left = was.left;
                right = was.right;
              })
              (record {
                keeps = λ k. (here, seen', (old.keeps k).2);
                seen = subst (λ (l : List Event). IsPrefix l log') (sym seen') (prefix_self log');
                broken_only = old.broken_only;
                placed = subst (λ (l : List Event). Placed (l ++ e ∷ []) (v.now.mine ++ (length l, e) ∷ [])) (sym all)
                    (placed_own h.log e v.now.mine placed);
                closed = subst (λ (l : List Event). Closed log' (v.now.mine ++ (length l, e) ∷ [])) (sym all)
                    (closed_own h.log e v.now.mine placed may' old.closed);
                left = told_nothing w.now;
                right = told_nothing w.now;
              });
          apart = λ k.
              let t = sum_set (size k) s.views id v w at in
              let a = h.apart k in
              let l = ap length all in
              elim (native.Mathlib.Decide.ℕ_discrete k (length v.now.seen)) [
                | yes q ↦ (let none : sum_by (size k) s.views ≡ 0 =
                    sum_none (size k) s.views (λ j u f.
                    let was = h.fits j u f in
                    subst (λ (m : ℕ). times m u.now.mine ≡ 0) (sym (q ∙ l))
                    (times_none (length h.log) u.now.mine
                    (λ i g is. slice_get_within h.log i g (prefix_get u.now.seen h.log i g was.seen (was.placed i g is))))) in
                    let one : times k (v.now.mine ++ (length v.now.seen, e) ∷ []) ≡ times k v.now.mine + 1 =
                    subst (λ (m : ℕ). times k (v.now.mine ++ (m, e) ∷ []) ≡ times k v.now.mine + 1) q (times_same k v.now.mine e) in
                    omega arith)
                | no q ↦ (let same = times_else k (length v.now.seen) v.now.mine e q in omega arith)
              ];
          old = prefix_trans key h.log log' h.old more;
        },
        (refl, refl),
      )

  -- a break by the keeper
  pub breaks : (slots id : ℕ) (me : Me S View) → me.0.now.keeps ≡ true
      → Allows (Kept key) slots id me 0 (λ n. bit_or n (2 ^ 63)) (λ n w. (w.1 ≡ me.1) × (w.0 ≡ broke me.0))
  breaks slots id me mark s h len at small =
      let v : View = me.0 in
      let n : ℕ = slice_index s.words 0 in
      let found : n ≡ word_of h.log h.broken = index_one s.words _ h.word in
      let w : View = broke v in
      let old : Fits h.seat h.log h.broken id v = h.fits id v at in
      let here : id ≡ h.seat = (old.keeps mark).0 in (
        w,
        keeps,
        tt,
        record {
          seat = h.seat;
          log = h.log;
          broken = true;
          word = set_one s.words _ (bit_or n (2 ^ 63)) h.word
              ∙ ap (λ (m : ℕ). m ∷ []) (ap (λ (m : ℕ). bit_or m (2 ^ 63)) found ∙ word_broken h.log h.broken h.short);
          short = h.short;
          keeper = keeper_after h.seat s.views id v w at h.keeper (λ k. k);
          fits = set_all (Fits h.seat h.log true) s.views id w
              (λ j u apart f.
              let was = h.fits j u f in record {
                keeps = λ k. absurd (apart ((was.keeps k).0 ∙ sym here));
                seen = was.seen;
                broken_only = λ _. refl;
                placed = was.placed;
                closed = was.closed;
                left = was.left;
                right = was.right;
              })
              (record {
                keeps = λ k. (here, (old.keeps k).1, refl);
                seen = old.seen;
                broken_only = λ _. refl;
                placed = old.placed;
                closed = old.closed;
                left = told_nothing w.now;
                right = told_nothing w.now;
              });
          apart = λ k. let t = sum_set (size k) s.views id v w at in let a = h.apart k in omega arith;
          old = h.old;
        },
        (refl, refl),
      )

  -- a split
  splits_by : (b : Bool) (id : ℕ) (v : View) → v.now.keeps ≡ b → Splits {S = S} (Kept key) id v (kept_half v) (new_half v)
  splits_by true id v mark s h at =
      let left : View = kept_half v in
      let right : View = new_half v in
      let old : Fits h.seat h.log h.broken id v = h.fits id v at in
      let here : id ≡ h.seat = (old.keeps mark).0 in
      let seat' : ℕ = length (set s.views id left) in record {
        seat = seat';
        log = h.log;
        broken = h.broken;
        word = h.word;
        short = h.short;
        keeper = (right, at_last (set s.views id left) right seat' refl, mark);
        fits = all_snoc (Fits seat' h.log h.broken) (set s.views id left) right
            (set_all (Fits seat' h.log h.broken) s.views id left
            (λ j u apart f.
            let was = h.fits j u f in
            moved h.seat seat' h.log h.broken j u (λ k. absurd (apart ((was.keeps k).0 ∙ sym here))) was)
            (moved h.seat seat' h.log h.broken id left (λ k. absurd (off k)) (fits_left h.seat h.log h.broken id v old)))
            (halves_fit h.seat seat' h.log h.broken id seat' v old (λ _. refl));
        apart = λ k.
            let t = sum_set (size k) s.views id v left at in
            let a = h.apart k in
            let p = sum_by_push (size k) (set s.views id left) right in omega arith;
        old = h.old;
      }
  splits_by false id v mark s h at =
      let left : View = kept_half v in
      let right : View = new_half v in
      let old : Fits h.seat h.log h.broken id v = h.fits id v at in
      let views' : List View = set s.views id left in
      let n : ℕ = length views' in
      let none : v.now.keeps ≡ true → ⊥ = λ k. off (sym mark ∙ k) in
      let other : h.seat ≢ id = not_keeper h.seat s.views id v h.keeper at none in
      let keeper = at_longer views' (right ∷ []) h.seat h.keeper.0 (set_else s.views id h.seat left other ∙ h.keeper.1) in record {
        seat = h.seat;
        log = h.log;
        broken = h.broken;
        word = h.word;
        short = h.short;
        keeper = (h.keeper.0, keeper, h.keeper.2);
        fits = all_snoc (Fits h.seat h.log h.broken) views' right
            (set_all (Fits h.seat h.log h.broken) s.views id left (λ j u _ f. h.fits j u f) (fits_left h.seat h.log h.broken id v old))
            (halves_fit h.seat h.seat h.log h.broken id n v old (λ k. absurd (none k)));
        apart = λ k.
            let t = sum_set (size k) s.views id v left at in
            let a = h.apart k in
            let p = sum_by_push (size k) views' right in omega arith;
        old = h.old;
      }

  pub splits : (id : ℕ) (v : View) → Splits {S = S} (Kept key) id v (kept_half v) (new_half v)
  splits id v = splits_by v.now.keeps id v refl

  -- a join
  joins_put : (id : ℕ) (v : View) (other : ℕ) (w : View) (s : State S View) (h : Kept key s) (at : get_elem? s.views id ≡ some v)
      (apart : other ≢ id) (there : get_elem? (set s.views id (joined v w)) other ≡ some w) (seat' : ℕ)
      → ((j : ℕ) (u : View) → j ≢ id → j ≢ other → get_elem? s.views j ≡ some u → u.now.keeps ≡ true → j ≡ seat')
      → ((v.now.keeps || w.now.keeps) ≡ true → id ≡ seat')
      → ((k : View) × (get_elem? (set (set s.views id (joined v w)) other spent_view) seat' ≡ some k) × (k.now.keeps ≡ true))
      → Kept {S = S} key record { words = s.words; homes = s.homes; views = set (set s.views id (joined v w)) other spent_view }
  joins_put id v other w s h at apart there seat' others here keeper =
      let both : View = joined v w in
      let views' : List View = set s.views id both in
      let there' : get_elem? s.views other ≡ some w = sym (set_else s.views id other both apart) ∙ there in
      let p : Fits h.seat h.log h.broken id v = h.fits id v at in
      let q : Fits h.seat h.log h.broken other w = h.fits other w there' in record {
        seat = seat';
        log = h.log;
        broken = h.broken;
        word = h.word;
        short = h.short;
        keeper = keeper;
        fits = set_all (λ (j : ℕ) (u : View). Fits seat' h.log h.broken j u) views' other spent_view
            (λ j u n f. set_all (λ (i : ℕ) (x : View). i ≢ other → Fits seat' h.log h.broken i x) s.views id both
            (λ i x m g n'. moved h.seat seat' h.log h.broken i x (others i x m n' g) (h.fits i x g))
            (λ _. fits_joined h.seat seat' h.log h.broken id other v w p q here) j u f n)
            (fits_nothing seat' h.log h.broken other);
        apart = λ k.
            let t = sum_set (size k) s.views id v both at in
            let u = sum_set (size k) views' other w spent_view there in
            let m = times-append k v.now.mine w.now.mine in
            let a = h.apart k in omega arith;
        old = h.old;
      }

  joins_by : (b : Bool) (id : ℕ) (v : View) (other : ℕ) (w : View) → (v.now.keeps || w.now.keeps) ≡ b
      → Joins {S = S} (Kept key) id v other w (joined v w) spent_view
  joins_by true id v other w mark s h at apart there =
      let both : View = joined v w in
      let views' : List View = set s.views id both in
      let there' : get_elem? s.views other ≡ some w = sym (set_else s.views id other both apart) ∙ there in
      let p : Fits h.seat h.log h.broken id v = h.fits id v at in
      let q : Fits h.seat h.log h.broken other w = h.fits other w there' in
      joins_put id v other w s h at apart there id
      (λ j u n n' f k.
      let here : j ≡ h.seat = ((h.fits j u f).keeps k).0 in
      ⊎_elim
      (λ (a : v.now.keeps ≡ true). absurd (n (here ∙ sym (p.keeps a).0)))
      (λ (a : w.now.keeps ≡ true). absurd (n' (here ∙ sym (q.keeps a).0)))
      (or_either v.now.keeps w.now.keeps mark))
      (λ _. refl)
      (both, set_else views' other id spent_view (λ e. apart (sym e)) ∙ set_here s.views id both (at_within s.views id v at), mark)
  joins_by false id v other w mark s h at apart there =
      let both : View = joined v w in
      let views' : List View = set s.views id both in
      let there' : get_elem? s.views other ≡ some w = sym (set_else s.views id other both apart) ∙ there in
      let not_v : v.now.keeps ≡ true → ⊥ = λ k. off (sym mark ∙ or_left v.now.keeps w.now.keeps k) in
      let not_w : w.now.keeps ≡ true → ⊥ = λ k. off (sym mark ∙ or_right v.now.keeps w.now.keeps k) in
      let far : h.seat ≢ id = not_keeper h.seat s.views id v h.keeper at not_v in
      let far' : h.seat ≢ other = not_keeper h.seat s.views other w h.keeper there' not_w in
      joins_put id v other w s h at apart there h.seat
      (λ j u n n' f k. ((h.fits j u f).keeps k).0)
      (λ k. absurd (off (sym mark ∙ k)))
      (h.keeper.0, set_else views' other h.seat spent_view far' ∙ (set_else s.views id h.seat both far ∙ h.keeper.1), h.keeper.2)

  pub joins : (id : ℕ) (v : View) (other : ℕ) (w : View) → Joins {S = S} (Kept key) id v other w (joined v w) spent_view
  joins id v other w = joins_by (v.now.keeps || w.now.keeps) id v other w refl
