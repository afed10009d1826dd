-- Lines that are read one after the other.
use Rattle.std.proofs.Common.{◌≡◌, ℕ, ◌+◌, ◌<◌, ◌≤◌, Bool, true, false, List, [], ◌∷◌, ◌++◌, length, refl, sym, ap, subst, ◌∙◌, arith}
use Rattle.std.proofs.Common.{append_assoc, length-append, MatchBool}
use Rattle.std.proofs.lemmas.List.{append-nil}
use Rattle.std.specs.Prelude.{All}
use Rattle.std.proofs.lemmas.List.Elements.{All-append, All-nil, All-same}
use Rattle.acc_script.specs.Pieces.{lines_of, is_skipped}
use Rattle.acc_script.proofs.Cutting.{length_pieces}
use Rattle.acc_script.specs.LineReadings.{Says, AreSaid, IsSaid, IsTooMuch, Refuses, AddsSaid}

-- The first n lines are read: they say the items, and these are few enough; the other lines are left.
pub record SoFar {X : Type 0} (Line : List ℕ → List X → Type 0) (most : ℕ) (all left : List (List ℕ)) (n : ℕ) (items : List X) : Type 0
  where
    pub before : List (List ℕ)
    pub parts : all ≡ before ++ left
    pub number : n ≡ length before
    pub said : AreSaid Line before items
    pub few : length items ≤ most

-- lines and then a line
skip_behind : {X : Type 0} (Line : List ℕ → List X → Type 0) (before : List (List ℕ)) (line : List ℕ) (items : List X) →
    AreSaid Line before items → is_skipped line ≡ true → AreSaid Line (before ++ line ∷ []) items
skip_behind Line [] line items h skip = rw skip h
skip_behind {X} Line (first ∷ before) line items h skip = by (is_skipped first) h (λ xs g. skip_behind Line before line xs g skip)
  where
    by : (b : Bool) → MatchBool b (AreSaid Line before items) (Says Line first (AreSaid Line before) items) →
        ((xs : List X) → AreSaid Line before xs → AreSaid Line (before ++ line ∷ []) xs) →
        MatchBool b (AreSaid Line (before ++ line ∷ []) items) (Says Line first (AreSaid Line (before ++ line ∷ [])) items)
    by true g ih = ih items g
    by false g ih = record { here = g.here; behind = g.behind; parts = g.parts; said = g.said; rest = ih g.behind g.rest }

say_behind : {X : Type 0} (Line : List ℕ → List X → Type 0) (before : List (List ℕ)) (line : List ℕ) (items here : List X) →
    AreSaid Line before items → is_skipped line ≡ false → Line line here → AreSaid Line (before ++ line ∷ []) (items ++ here)
say_behind Line [] line items here h counts said =
    rw counts (record { here = here; behind = []; parts = ap (λ xs. xs ++ here) h ∙ sym (append-nil here); said = said; rest = refl })
say_behind {X} Line (first ∷ before) line items here h counts said =
    by (is_skipped first) h (λ xs g. say_behind Line before line xs here g counts said)
  where
    by : (b : Bool) → MatchBool b (AreSaid Line before items) (Says Line first (AreSaid Line before) items) →
        ((xs : List X) → AreSaid Line before xs → AreSaid Line (before ++ line ∷ []) (xs ++ here)) →
        MatchBool b (AreSaid Line (before ++ line ∷ []) (items ++ here))
        (Says Line first (AreSaid Line (before ++ line ∷ [])) (items ++ here))
    by true g ih = ih items g
    by false g ih =
        record {
          here = g.here;
          behind = g.behind ++ here;
          parts = ap (λ xs. xs ++ here) g.parts ∙ append_assoc g.here g.behind here;
          said =
              g.said;
          rest = ih g.behind g.rest;
        }

longer : (before : List (List ℕ)) (line : List ℕ) (n : ℕ) → n ≡ length before → n + 1 ≡ length (before ++ line ∷ [])
longer before line n h = simp length-append (omega arith)

-- a skipped line is read
pub one_skipped : {X : Type 0} (Line : List ℕ → List X → Type 0) (most : ℕ) (all left : List (List ℕ)) (line : List ℕ) (n : ℕ)
    (items : List X) → SoFar Line most all (line ∷ left) n items → is_skipped line ≡ true → SoFar Line most all left (n + 1) items
one_skipped Line most all left line n items h skip =
    record {
      before = h.before ++ line ∷ [];
      parts = h.parts ∙ sym (append_assoc h.before (line ∷ []) left);
      number =
          longer h.before line n h.number;
      said = skip_behind Line h.before line items h.said skip;
      few = h.few;
    }

-- a line that says something is read
pub one_said : {X : Type 0} (Line : List ℕ → List X → Type 0) (most : ℕ) (all left : List (List ℕ)) (line : List ℕ) (n : ℕ)
    (items new : List X) → SoFar Line most all (line ∷ left) n items → is_skipped line ≡ false → AddsSaid Line most line items new →
    SoFar Line most all left (n + 1) new
one_said Line most all left line n items new h counts adds =
    record {
      before = h.before ++ line ∷ [];
      parts = h.parts ∙ sym (append_assoc h.before (line ∷ []) left);
      number =
          longer h.before line n h.number;
      said = subst (AreSaid Line (h.before ++ line ∷ [])) (sym adds.parts)
          (say_behind Line h.before line items adds.here h.said counts adds.said);
      few = adds.few;
    }

-- a line that comes next has a number that isn't large
pub next_number : {X : Type 0} (Line : List ℕ → List X → Type 0) (most : ℕ) (text : List ℕ) (left : List (List ℕ)) (line : List ℕ) (n : ℕ)
    (items : List X) → SoFar Line most (lines_of text) (line ∷ left) n items → n ≤ length text
next_number Line most text left line n items h =
    omega (arith, length_pieces 10 text, ap length h.parts, length-append h.before (line ∷ left), h.number)

-- all lines are read
pub all_read : {X : Type 0} (Line : List ℕ → List X → Type 0) (most : ℕ) (text : List ℕ) (n : ℕ) (items : List X) →
    SoFar Line most (lines_of text) [] n items → IsSaid Line most text items
all_read Line most text n items h = record {
  said = subst (λ ls. AreSaid Line ls items) (sym (h.parts ∙ append-nil h.before)) h.said;
  few =
      h.few;
}

-- a line is refused
pub one_refused : {X : Type 0} (Line : List ℕ → List X → Type 0) (most : ℕ) (text : List ℕ) (left : List (List ℕ)) (line : List ℕ) (n : ℕ)
    (items : List X) → SoFar Line most (lines_of text) (line ∷ left) n items → is_skipped line ≡ false →
    IsTooMuch Line most line (length items) → Refuses Line most text (n + 1)
one_refused Line most text left line n items h counts wrong =
    record {
      before = h.before;
      line = line;
      behind = left;
      parts = h.parts;
      number = ap (λ k. k + 1) h.number;
      items = items;
      said =
          h.said;
      few = h.few;
      counts = counts;
      wrong = wrong;
    }

-- what holds of all that a line may say, holds of all that lines say
holds_of_said : {X : Type 0} (Line : List ℕ → List X → Type 0) (P : X → Type 0) →
    ((line : List ℕ) (xs : List X) → Line line xs → All P xs) → (lines : List (List ℕ)) (items : List X) → AreSaid Line lines items →
    All P items
holds_of_said Line P each [] items h = All-same P items [] h (All-nil P)
holds_of_said {X} Line P each (line ∷ lines) items h = by (is_skipped line) h (holds_of_said Line P each lines)
  where
    by : (b : Bool) → MatchBool b (AreSaid Line lines items) (Says Line line (AreSaid Line lines) items) →
        ((xs : List X) → AreSaid Line lines xs → All P xs) → All P items
    by true g ih = ih items g
    by false g ih = All-same P items (g.here ++ g.behind) g.parts
        (All-append P g.here g.behind (each line g.here g.said) (ih g.behind g.rest))

pub holds_of_all : {X : Type 0} (Line : List ℕ → List X → Type 0) (P : X → Type 0) →
    ((line : List ℕ) (xs : List X) → Line line xs → All P xs) → (most : ℕ) (text : List ℕ) (items : List X) → IsSaid Line most text items →
    All P items
holds_of_all Line P each most text items h = holds_of_said Line P each (lines_of text) items h.said

-- ---- what lines say, where what each of them says is determined

abbrev pub SaysOne : {X : Type 0} → (List ℕ → List X → Type 0) → Type 0
SaysOne {X} Line = (line : List ℕ) (xs ys : List X) → Line line xs → Line line ys → xs ≡ ys

one_reading : {X : Type 0} (Line : List ℕ → List X → Type 0) → SaysOne Line → (lines : List (List ℕ)) (xs ys : List X) →
    AreSaid Line lines xs → AreSaid Line lines ys → xs ≡ ys
one_reading Line same [] xs ys h g = h ∙ sym g
one_reading {X} Line same (line ∷ lines) xs ys h g = by (is_skipped line) h g (one_reading Line same lines)
  where
    by : (b : Bool) → MatchBool b (AreSaid Line lines xs) (Says Line line (AreSaid Line lines) xs) →
        MatchBool b (AreSaid Line lines ys) (Says Line line (AreSaid Line lines) ys) →
        ((us vs : List X) → AreSaid Line lines us → AreSaid Line lines vs → us ≡ vs) → xs ≡ ys
    by true p q ih = ih xs ys p q
    by false p q ih =
        p.parts ∙ (ap (λ us. us ++ p.behind) (same line p.here q.here p.said q.said) ∙
        (ap (λ us. q.here ++ us) (ih p.behind q.behind p.rest q.rest) ∙ sym q.parts))

-- a text says its items in one way
pub one_said_by : {X : Type 0} (Line : List ℕ → List X → Type 0) → SaysOne Line → (most : ℕ) (text : List ℕ) (xs ys : List X) →
    IsSaid Line most text xs → IsSaid Line most text ys → xs ≡ ys
one_said_by Line same most text xs ys h g = one_reading Line same (lines_of text) xs ys h.said g.said

-- among all items there is room for some and for what a line may say
abbrev Room : {X : Type 0} → (List ℕ → List X → Type 0) → List ℕ → List X → List X → Type 0
Room {X} Line line items all = (here : List X) × Line line here × (length items + length here ≤ length all)

-- lines, a line and more lines say no fewer items than the former do
parted : {X : Type 0} (Line : List ℕ → List X → Type 0) → SaysOne Line →
    (before : List (List ℕ)) (line : List ℕ) (behind : List (List ℕ)) (items all : List X) → AreSaid Line before items →
    is_skipped line ≡ false → AreSaid Line (before ++ line ∷ behind) all → Room Line line items all
parted Line same [] line behind items all h counts whole =
    let w : Says Line line (AreSaid Line behind) all = rw counts at whole in
    (w.here, w.said, omega (arith, ap length h, ap length w.parts, length-append w.here w.behind))
parted {X} Line same (first ∷ before) line behind items all h counts whole =
    by (is_skipped first) h whole (λ xs ys g w. parted Line same before line behind xs ys g counts w)
  where
    by : (b : Bool) → MatchBool b (AreSaid Line before items) (Says Line first (AreSaid Line before) items) →
        MatchBool b (AreSaid Line (before ++ line ∷ behind) all) (Says Line first (AreSaid Line (before ++ line ∷ behind)) all) →
        ((xs ys : List X) → AreSaid Line before xs → AreSaid Line (before ++ line ∷ behind) ys → Room Line line xs ys) →
        Room Line line items all
    by true g w ih = ih items all g w
    by false g w ih =
        let more = ih g.behind w.behind g.rest w.rest in (
          more.0,
          more.1,
          omega (
            arith,
            ap length (same first g.here w.here g.said w.said),
            ap length g.parts,
            ap length w.parts,
            length-append g.here g.behind,
            length-append w.here w.behind,
            more.2,
          ),
        )

-- a refused text says nothing
pub refused_none : {X : Type 0} (Line : List ℕ → List X → Type 0) → SaysOne Line → (most : ℕ) (text : List ℕ) (n : ℕ) →
    Refuses Line most text n → (items : List X) → ¬ IsSaid Line most text items
refused_none Line same most text n r items whole =
    let p = parted Line same r.before r.line r.behind r.items items r.said r.counts
    (subst (λ ls. AreSaid Line ls items) r.parts whole.said) in
    absurd (omega (arith, r.wrong p.0 p.1, p.2, whole.few))

-- ---- no other line is the first that is refused

-- of two fronts of a list the longer one goes on from the shorter
front_goes_on : {X : Type 0} (a : List X) (x : X) (more : List X) (b : List X) (y : X) (bs : List X) → a ++ x ∷ more ≡ b ++ y ∷ bs →
    length a < length b → (rest : List X) × (b ≡ a ++ x ∷ rest)
front_goes_on [] x more [] y bs e lt = absurd (omega (arith, lt))
front_goes_on {X} [] x more (z ∷ b) y bs e lt = let same : x ≡ z = cc in (b, ap (λ (w : X). w ∷ b) (sym same))
front_goes_on (w ∷ a) x more [] y bs e lt = absurd (omega (arith, lt))
front_goes_on {X} (w ∷ a) x more (z ∷ b) y bs e lt =
    let same : w ≡ z = cc in
    let tails : a ++ x ∷ more ≡ b ++ y ∷ bs = cc in
    let cut = front_goes_on a x more b y bs tails (omega (arith, lt)) in
    (cut.0, λ i. sym same i ∷ cut.1 i)

not_refused_before : {X : Type 0} (Line : List ℕ → List X → Type 0) → SaysOne Line → (most : ℕ) (text : List ℕ) (m n : ℕ) →
    Refuses Line most text m → Refuses Line most text n → m < n → ⊥
not_refused_before Line same most text m n h k lt =
    let cut = front_goes_on h.before h.line h.behind k.before k.line k.behind (sym h.parts ∙ k.parts)
    (omega (arith, h.number, k.number, lt)) in
    let p = parted Line same h.before h.line cut.0 h.items k.items h.said h.counts (subst (λ ls. AreSaid Line ls k.items) cut.1 k.said) in
    absurd (omega (arith, h.wrong p.0 p.1, p.2, k.few))

pub one_refused_line : {X : Type 0} (Line : List ℕ → List X → Type 0) → SaysOne Line → (most : ℕ) (text : List ℕ) (m n : ℕ) →
    Refuses Line most text m → Refuses Line most text n → m ≡ n
one_refused_line Line same most text m n h k =
    let not_less : ¬ (m < n) = not_refused_before Line same most text m n h k in
    let not_more : ¬ (n < m) = not_refused_before Line same most text n m k h in
    omega (arith, not_less, not_more)
