-- Statements that are judged: their texts and their marks, one after another, and each of them is a line and ends once.
use Rattle.std.proofs.Common.{◌≡◌, ℕ, ◌+◌, Bool, true, false, List, [], ◌∷◌, ◌++◌, refl, sym, ap, ◌∙◌, append_assoc}
use Rattle.std.specs.Prelude.{if◌then◌else◌}
use Rattle.std.specs.List.{flat_map}
use Rattle.std.proofs.lemmas.List.{append-nil}
use Rattle.std.proofs.lemmas.List.Concat.{flat_map-append}
use Rattle.acc_base.specs.Lines.{line}
use Rattle.acc_form.specs.Marks.{Mark, numbered_from}
use Rattle.acc_form.specs.Judged.{Judged, judge, each_from}
use Rattle.acc_form.proofs.StatementEnds.{Counts}

abbrev pub text_of : Judged → List ℕ
text_of j = j.text

abbrev pub marks_of : Judged → List Mark
marks_of j = j.marks

-- the marks are those of one statement, and the text is a line
pub record IsOne (j : Judged) : Type 0 where
  pub once : Counts j.marks 1
  pub words : List ℕ
  pub is_line : j.text ≡ line words

-- each of them is one
abbrev pub AreOnes : List Judged → Type 0
AreOnes [] = Unit {0}
AreOnes (j ∷ js) = IsOne j × AreOnes js

-- statements with this text and these marks
pub record Judges (js : List Judged) (text : List ℕ) (marks : List Mark) : Type 0 where
  pub texts : flat_map text_of js ≡ text
  pub all_marks : flat_map marks_of js ≡ marks
  pub ones : AreOnes js

pub rejudged : {js : List Judged} {text text' : List ℕ} {ms ms' : List Mark} → Judges js text ms → text ≡ text' → ms ≡ ms'
    → Judges js text' ms'
rejudged a e f = record { texts = a.texts ∙ e; all_marks = a.all_marks ∙ f; ones = a.ones }

pub none_judged : Judges [] [] []
none_judged = record { texts = refl; all_marks = refl; ones = tt }

pub one_judged : (words : List ℕ) (ms : List Mark) → Counts ms 1 → Judges (judge (line words) ms) (line words) ms
one_judged words ms c = record {
  texts = append-nil (line words);
  all_marks = append-nil ms;
  ones = (record { once = c; words = words; is_line = refl }, tt);
}

-- a statement that may be left out
pub judged_unless : (b : Bool) (text : List ℕ) (ms : List Mark) → (b ≡ true → text ≡ [])
    → (b ≡ false → (words : List ℕ) × (text ≡ line words)) → Counts ms 1
    → Judges (if b then [] else judge text (if b then [] else ms)) text (if b then [] else ms)
judged_unless true text ms none some c = rejudged none_judged (sym (none refl)) refl
judged_unless false text ms none some c = record {
  texts = append-nil text;
  all_marks = append-nil ms;
  ones = (record { once = c; words = (some refl).0; is_line = (some refl).1 }, tt);
}

-- ---- one after the other

ones_both : (js ks : List Judged) → AreOnes js → AreOnes ks → AreOnes (js ++ ks)
ones_both [] ks h g = g
ones_both (j ∷ js) ks h g = (h.0, ones_both js ks h.1 g)

pub both_judged : {js ks : List Judged} {text text' : List ℕ} {ms ms' : List Mark} → Judges js text ms → Judges ks text' ms'
    → Judges (js ++ ks) (text ++ text') (ms ++ ms')
both_judged {js} {ks} {text} {ms} a b = record {
  texts = flat_map-append text_of js ks ∙ ap (λ (bs : List ℕ). bs ++ flat_map text_of ks) a.texts ∙ ap
      (λ (bs : List ℕ). text ++ bs) b.texts;
  all_marks = flat_map-append marks_of js ks ∙ ap (λ (ns : List Mark). ns ++ flat_map marks_of ks) a.all_marks ∙ ap
      (λ (ns : List Mark). ms ++ ns) b.all_marks;
  ones = ones_both js ks a.ones b.ones;
}

pub each_judged : {X : Type 0} (judged : ℕ → X → List Judged) (text : X → List ℕ) (marks : ℕ → X → List Mark)
    → ((i : ℕ) (x : X) → Judges (judged i x) (text x) (marks i x))
    → (i : ℕ) (xs : List X) → Judges (each_from i judged xs) (flat_map text xs) (numbered_from i marks xs)
each_judged judged text marks each i [] = none_judged
each_judged judged text marks each i (x ∷ xs) = both_judged (each i x) (each_judged judged text marks each (i + 1) xs)

-- the marks of a statement of which two rules are asked, and those behind it
pub behind_two : {T : Type 0} (a b c rest : List T) → (a ++ (b ++ c)) ++ rest ≡ a ++ (b ++ (c ++ rest))
behind_two {T} a b c rest = append_assoc a (b ++ c) rest ∙ ap (λ (ms : List T). a ++ ms) (append_assoc b c rest)
