-- The first lines of a text.
use Rattle.std.proofs.Common.{◌≡◌, ◌≢◌, ℕ, zero, suc, ◌+◌, ◌-◌, ◌<◌, ◌≤◌, Bool, true, false, cond, List, [], ◌∷◌, ◌++◌, length, take, drop}
use Rattle.std.proofs.Common.{get_or, refl, sym, ap, ◌∙◌, inl, inr, arith, add-one, append_assoc, length-drop, Some, None}
use Rattle.std.proofs.Math.Seq.{take-suc, drop-cons, take-length}
use Rattle.std.specs.List.{position, position_or_len}
use Rattle.std.proofs.lemmas.Grind.{common_steps}
use Rattle.std.proofs.lemmas.List.{take-append-drop}
use Rattle.std.proofs.lemmas.List.Sums.{sum_by-append, sum_by-take-drop, count_by_more_no, fails_before_first}
use Rattle.std.proofs.lemmas.List.Quantifiers.{position-Some}
use Rattle.std.specs.Prelude.{◌==◌, nat_lt, is_some}
use Rattle.std.proofs.lemmas.Bool.{eqb-true}
use Rattle.acc_grammar.proofs.RunReaders.{flag}
use Rattle.acc_lex.proofs.LineFronts.{IsFed}
use Rattle.acc_parse_statements.specs.Lines.{feeds, first_lines}

-- ---- counting line feeds

pub feeds_both : (a b : List ℕ) → feeds (a ++ b) ≡ feeds a + feeds b
feeds_both a b = sum_by-append (λ b. cond (b == 10) 1 0) a b

-- a front has no more line feeds than all
pub feeds_taken : (k : ℕ) (text : List ℕ) → feeds (take k text) ≤ feeds text
feeds_taken k text = omega (arith, sum_by-take-drop (λ b. cond (b == 10) 1 0) text k)

pub feeds_at : (b : ℕ) (bs : List ℕ) → (b == 10) ≡ true → feeds (b ∷ bs) ≡ suc (feeds bs)
feeds_at b bs e =
    let first : feeds (b ∷ []) ≡ 1 = rw e refl in
    omega (arith, feeds_both (b ∷ []) bs, first)

pub feeds_past : (b : ℕ) (bs : List ℕ) → (b == 10) ≡ false → feeds (b ∷ bs) ≡ feeds bs
feeds_past b bs e =
    let first : feeds (b ∷ []) ≡ 0 = rw e refl in
    omega (arith, feeds_both (b ∷ []) bs, first)

-- how many line feeds are left to look for behind a byte
abbrev pub next : ℕ → ℕ → ℕ
next b n = cond (b == 10) n (suc n)

next_le : (b n : ℕ) (bs : List ℕ) → suc n ≤ feeds (b ∷ bs) → next b n ≤ feeds bs
next_le b n bs h = elim (flag (b == 10)) [
  | inl e ↦ (let k = feeds_at b bs e in rw e (omega (arith, k, h)))
  | inr e ↦ (let k = feeds_past b bs e in rw e (omega (arith, k, h)))
]

pub next_more : (b n : ℕ) (bs : List ℕ) → feeds (b ∷ bs) < suc n → feeds bs < next b n
next_more b n bs h = elim (flag (b == 10)) [
  | inl e ↦ (let k = feeds_at b bs e in rw e (omega (arith, k, h)))
  | inr e ↦ (let k = feeds_past b bs e in rw e (omega (arith, k, h)))
]

next_is : (b n : ℕ) (bs : List ℕ) → suc n ≡ feeds (b ∷ bs) → next b n ≡ feeds bs
next_is b n bs h = elim (flag (b == 10)) [
  | inl e ↦ (let k = feeds_at b bs e in rw e (omega (arith, k, h)))
  | inr e ↦ (let k = feeds_past b bs e in rw e (omega (arith, k, h)))
]

next_both : (b m n : ℕ) → suc m ≤ suc n → next b m ≤ next b n
next_both b m n h = elim (flag (b == 10)) [ inl e ↦ rw e (omega (arith, h)) | inr e ↦ rw e h ]

-- ---- the first lines, and what stands behind them

pub behind_lines : (n : ℕ) (text : List ℕ) → (rest : List ℕ) × (text ≡ first_lines n text ++ rest)
behind_lines zero text = (text, refl)
behind_lines (suc n) [] = ([], refl)
behind_lines (suc n) (b ∷ bs) = let k = behind_lines (next b n) bs in (k.0, (λ i. b ∷ k.1 i))

-- more lines begin with fewer
pub later_lines : (m n : ℕ) (text : List ℕ) → m ≤ n → (rest : List ℕ) × (first_lines n text ≡ first_lines m text ++ rest)
later_lines zero n text h = (first_lines n text, refl)
later_lines (suc m) zero text h = absurd (omega (arith, h))
later_lines (suc m) (suc n) [] h = ([], refl)
later_lines (suc m) (suc n) (b ∷ bs) h = let k = later_lines (next b m) (next b n) bs (next_both b m n h) in (k.0, (λ i. b ∷ k.1 i))

-- ---- whole lines

tail_fed : (b : ℕ) (f : List ℕ) → IsFed (b ∷ f) → IsFed f
tail_fed b [] h = tt
tail_fed b (c ∷ f) h = h

fed_feeds : (b : ℕ) (f : List ℕ) → IsFed (b ∷ f) → 1 ≤ feeds (b ∷ f)
fed_feeds b [] h = let is : feeds (b ∷ []) ≡ 1 = ap (λ (z : ℕ). feeds (z ∷ [])) h in omega (arith, is)
fed_feeds b (c ∷ f) h = let k = fed_feeds c f h in elim (flag (b == 10)) [
  | inl e ↦ (let m = feeds_at b (c ∷ f) e in omega (arith, k, m))
  | inr e ↦ (let m = feeds_past b (c ∷ f) e in omega (arith, k, m))
]

-- whole lines are the first of a text that begins with them
pub lines_of : (n : ℕ) (f rest : List ℕ) → IsFed f → n ≡ feeds f → first_lines n (f ++ rest) ≡ f
lines_of zero [] rest h e = refl
lines_of (suc n) [] rest h e = absurd (let wrong : suc n ≡ 0 = e in cc)
lines_of zero (b ∷ f) rest h e = absurd (let k = fed_feeds b f h in omega (arith, k, e))
lines_of (suc n) (b ∷ f) rest h e = (λ i. b ∷ lines_of (next b n) f rest (tail_fed b f h) (next_is b n f e) i)

feed_then : (b : ℕ) (f : List ℕ) → b ≡ 10 → IsFed f → IsFed (b ∷ f)
feed_then b [] e h = e
feed_then b (c ∷ f) e h = h

byte_then : (b n : ℕ) (bs : List ℕ) → suc n ≤ feeds bs → IsFed (first_lines (suc n) bs) → IsFed (b ∷ first_lines (suc n) bs)
byte_then b n [] h f = absurd (omega (arith, h))
byte_then b n (c ∷ bs) h f = f

-- lines of which each has its line feed
pub lines_fed : (n : ℕ) (text : List ℕ) → n ≤ feeds text → IsFed (first_lines n text)
lines_fed zero text h = tt
lines_fed (suc n) [] h = tt
lines_fed (suc n) (b ∷ bs) h = elim (flag (b == 10)) [
  | inl e ↦ feed_then b (first_lines (next b n) bs) (eqb-true b 10 e) (lines_fed (next b n) bs (next_le b n bs h))
  | inr e ↦ (let k = feeds_past b bs e in let l : suc n ≤ feeds bs = omega (arith, k, h) in
      rw e (byte_then b n bs l (lines_fed (suc n) bs l)))
]

-- ---- lines and any front of a text

-- as many lines as a front has line feeds stand in it
pub lines_within : (n k : ℕ) (text : List ℕ) → n ≤ feeds (take k text) → (rest : List ℕ) × (take k text ≡ first_lines n text ++ rest)
lines_within zero k text h = (take k text, refl)
lines_within (suc n) zero [] h = absurd (omega (arith, h))
lines_within (suc n) (suc k) [] h = absurd (omega (arith, h))
lines_within (suc n) zero (b ∷ bs) h = absurd (omega (arith, h))
lines_within (suc n) (suc k) (b ∷ bs) h = let r = lines_within (next b n) k bs (next_le b n (take k bs) h) in (r.0, (λ i. b ∷ r.1 i))

-- more lines than that have the front and the byte behind it
pub lines_past : (n k : ℕ) (text : List ℕ) → feeds (take k text) < n → n ≤ feeds text → (k < length text) ×
    ((rest : List ℕ) × (first_lines n text ≡ take (suc k) text ++ rest))
lines_past zero k text h l = absurd (omega (arith, h))
lines_past (suc n) k [] h l = absurd (omega (arith, l))
lines_past (suc n) zero (b ∷ bs) h l = (omega arith, (first_lines (next b n) bs, refl))
lines_past (suc n) (suc k) (b ∷ bs) h l =
    let r = lines_past (next b n) k bs (next_more b n (take k bs) h) (next_le b n bs l) in
    (omega (arith, r.0), (r.1.0, (λ i. b ∷ r.1.1 i)))

-- ---- going over a text byte by byte

-- a byte is gone over
front_step : (m i : ℕ) (text : List ℕ) → i < length text →
    take i text ++ first_lines (suc m) (drop i text) ≡ take (i + 1) text ++ first_lines (next (get_or text i 0) m) (drop (i + 1) text)
front_step m i text h =
    let behind : List ℕ = first_lines (next (get_or text i 0) m) (drop (suc i) text) in
    let front : take (suc i) text ≡ take i text ++ (get_or text i 0 ∷ []) = take-suc text i 0 h in
    ap (λ (z : List ℕ). take i text ++ first_lines (suc m) z) (drop-cons text i 0 h) ∙ sym
    (append_assoc (take i text) (get_or text i 0 ∷ []) behind) ∙ ap (λ (z : List ℕ). z ++ behind) (sym front) ∙ ap
    (λ (z : ℕ). take z text ++ first_lines (next (get_or text i 0) m) (drop z text)) (sym (add-one i))

-- a line feed is gone over
pub front_at_feed : (left i : ℕ) (text : List ℕ) → i < length text → get_or text i 0 ≡ 10 → left ≢ 0 →
    take i text ++ first_lines left (drop i text) ≡ take (i + 1) text ++ first_lines (left - 1) (drop (i + 1) text)
front_at_feed zero i text h is some = absurd (some refl)
front_at_feed (suc m) i text h is some =
    let less : m ≡ suc m - 1 = omega arith in
    front_step m i text h ∙ ap (λ (z : ℕ). take (i + 1) text ++ first_lines (next z m) (drop (i + 1) text)) is ∙ ap
    (λ (z : ℕ). take (i + 1) text ++ first_lines z (drop (i + 1) text)) less

-- any other byte is gone over
pub front_past_feed : (left i : ℕ) (text : List ℕ) → i < length text → get_or text i 0 ≢ 10 → left ≢ 0 →
    take i text ++ first_lines left (drop i text) ≡ take (i + 1) text ++ first_lines left (drop (i + 1) text)
front_past_feed zero i text h not some = absurd (some refl)
front_past_feed (suc m) i text h not some = elim (flag (get_or text i 0 == 10)) [
  | inl e ↦ absurd (not (eqb-true (get_or text i 0) 10 e))
  | inr e ↦ front_step m i text h ∙ ap (λ (z : Bool). take (i + 1) text ++ first_lines (cond z m (suc m)) (drop (i + 1) text)) e
]

-- ---- the first line feed

no_feeds : (text : List ℕ) (i : ℕ) → i ≤ length text → ((k : ℕ) → k < i → (get_or text k 0 == 10) ≡ false) → feeds (take i text) ≡ 0
no_feeds text zero h none = refl
no_feeds text (suc i) h none =
    let before = no_feeds text i (omega (arith, h)) (λ k lt. none k (omega (arith, lt))) in
    let more = count_by_more_no (λ b. b == 10) text i 0 (omega (arith, h)) (none i (omega arith)) in
    ap (λ (z : ℕ). feeds (take z text)) (sym (add-one i)) ∙ more ∙ before

-- the first line, its line feed, and what stands behind
pub first_cut : (text : List ℕ) (end : ℕ) → position (λ b. b == 10) text ≡ Some end →
    (text ≡ take end text ++ (10 ∷ take (length text - (end + 1)) (drop (end + 1) text))) × (feeds (take end text) ≡ 0)
first_cut text end e =
    let p = position-Some (λ b. b == 10) text end 0 e in
    let feed : get_or text end 0 ≡ 10 = eqb-true (get_or text end 0) 10 p.1 in
    let behind : List ℕ = drop (end + 1) text in
    let all : take (length text - (end + 1)) behind ≡ behind =
    ap (λ (z : ℕ). take z behind) (sym (length-drop (end + 1) text)) ∙ take-length behind in
    let split : drop end text ≡ 10 ∷ behind = drop-cons text end 0 p.0 ∙ ap (λ (z : ℕ). z ∷ drop (suc end) text) feed ∙ ap
    (λ (z : ℕ). 10 ∷ drop z text) (sym (add-one end)) in (
      sym (take-append-drop end text) ∙ ap (λ (z : List ℕ). take end text ++ z) (split ∙ ap (λ (z : List ℕ). 10 ∷ z) (sym all)),
      no_feeds text end (omega (arith, p.0)) p.2,
    )

none_is : (b : Bool) (i : ℕ) → cond b (Some i) None ≡ None → b ≡ false
none_is true i e = absurd (let wrong : is_some (Some i) ≡ false = ap is_some e in cc)
none_is false i e = refl

-- a text of one line
pub one_line : (text : List ℕ) → position (λ b. b == 10) text ≡ None → feeds text ≡ 0
one_line text e =
    let place : ℕ = position_or_len (λ b. b == 10) text in
    let outside : nat_lt place (length text) ≡ false = none_is (nat_lt place (length text)) place e in
    let past : length text ≤ place = grind (arith, common_steps) in
    ap feeds (sym (take-length text)) ∙ no_feeds text (length text) (omega arith)
    (λ k lt. fails_before_first (λ b. b == 10) text k 0 (omega (arith, lt, past)))
