-- The words of a call behind its parameters, read one after the other.
use Rattle.std.proofs.Common.{◌≡◌, ◌≢◌, ℕ, suc, ◌<◌, ◌^◌, true, false, Bool, List, [], ◌∷◌, ◌++◌, length, map, refl, sym, ap, ◌∙◌, arith}
use Rattle.std.proofs.Common.{append_assoc, length-append, inl, inr, ℤ, Option, Some, None, pos, negsuc}
use Rattle.std.specs.Prelude.{◌==◌, ◌&&◌, nat_le, codes}
use Rattle.std.specs.Char.{is_ascii_digit}
use Rattle.std.specs.List.{list_all}
use Rattle.std.specs.Fmt.{decimal, signed_decimal}
use Rattle.std.specs.Cmp.{first_so, second_so}
use Rattle.std.proofs.lemmas.Bool.Decides.{nat_tests}
use Rattle.std.proofs.lemmas.Fmt.{decimal_injective}
use Rattle.std.proofs.lemmas.List.{map-append}
use Rattle.acc_base.specs.Machine.{ask_fits}
use Rattle.acc_base.specs.Numbers.{is_small, IsSmall}
use Rattle.acc_base.proofs.Smalls.{small_is}
use Rattle.acc_script.specs.Numerals.{is_numeral}
use Rattle.acc_script.specs.CallLines.{ask_words}
use Rattle.acc_script.specs.CallParts.{BeginWith, BeginsNoNumber, IsTape, TakesNumbers, TakesTape, AreRest}
use Rattle.acc_script.proofs.Decimals.{spelled_numeral, small_once}

-- a byte that is no digit and no minus spells no number
no_mark : (c : ℕ) → is_ascii_digit c ≡ false → (c == 45) ≡ false → (v : ℤ) → IsSmall v → c ∷ [] ≢ signed_decimal v
no_mark c other minus (pos n) small e = let d : is_numeral (c ∷ []) ≡ true = ap is_numeral e ∙ spelled_numeral n (omega arith) in
    absurd (let w : true ≡ false = sym (first_so _ _ d) ∙ other in cc w)
no_mark c other minus (negsuc n) small e =
    let f : c ≡ 45 = (let g : c ∷ [] ≡ 45 ∷ decimal (suc n) = e in cc) in
    absurd (let w : true ≡ false = ap (λ b. b == 45) (sym f) ∙ minus in cc w)

-- the first of some words
first_word : (x y : List ℕ) (xs ys : List (List ℕ)) → x ∷ xs ≡ y ∷ ys → x ≡ y
first_word x y xs ys e = cc

behind_first : (x y : List ℕ) (xs ys : List (List ℕ)) → x ∷ xs ≡ y ∷ ys → xs ≡ ys
behind_first x y xs ys e = cc

-- the words of an asked abort begin with no number
at_number : (v : ℤ) → IsSmall v → 64 ∷ [] ≢ signed_decimal v
at_number = no_mark 64 refl refl

asked_number : (n : ℕ) → BeginsNoNumber (codes "@" ∷ decimal n ∷ [])
asked_number n = λ v left small e. at_number v small (first_word (64 ∷ []) (signed_decimal v) (decimal n ∷ []) left e)

none_number : BeginsNoNumber []
none_number = λ v left small e. cc

ask_no_number : (ask : Option ℕ) → BeginsNoNumber (ask_words ask)
ask_no_number None = none_number
ask_no_number (Some n) = asked_number n

-- numbers within 2^45 of 0, as many as there are, are spelled in one way
numbers_once : (xs ys : List ℤ) (left more : List (List ℕ)) → list_all is_small xs ≡ true → list_all is_small ys ≡ true →
    BeginsNoNumber left → BeginsNoNumber more → map signed_decimal xs ++ left ≡ map signed_decimal ys ++ more → (xs ≡ ys) × (left ≡ more)
numbers_once [] [] left more p q other others e = (refl, e)
numbers_once [] (y ∷ ys) left more p q other others e =
    absurd (other y (map signed_decimal ys ++ more) (small_is y (first_so (is_small y) (list_all is_small ys) q)) e)
numbers_once (x ∷ xs) [] left more p q other others e =
    absurd (others x (map signed_decimal xs ++ left) (small_is x (first_so (is_small x) (list_all is_small xs) p)) (sym e))
numbers_once (x ∷ xs) (y ∷ ys) left more p q other others e =
    let first : signed_decimal x ≡ signed_decimal y = cc in
    let rest : map signed_decimal xs ++ left ≡ map signed_decimal ys ++ more = cc in
    let a : x ≡ y = small_once x y (small_is x (first_so (is_small x) (list_all is_small xs) p))
    (small_is y (first_so (is_small y) (list_all is_small ys) q)) first in
    let b = numbers_once xs ys left more (second_so (is_small x) (list_all is_small xs) p) (second_so (is_small y) (list_all is_small ys) q)
    other others rest in
    ((let c : xs ≡ ys = b.0 in cc), b.1)

-- words begin with the numbers of a tape in one way
pub taken_once : (words : List (List ℕ)) (xs ys : List ℤ) (left more : List (List ℕ)) → TakesNumbers words xs left →
    TakesNumbers words ys more → (xs ≡ ys) × (left ≡ more)
taken_once words xs ys left more h g = numbers_once xs ys left more h.fits.small g.fits.small h.other g.other (sym h.read ∙ g.read)

small_so : (v : ℤ) → IsSmall v → is_small v ≡ true
small_so v h = grind (arith, nat_tests)

-- The first words are read as numbers of a tape, and others are left.
pub record TapeSoFar (words left : List (List ℕ)) (tape : List ℤ) : Type 0 where
  pub read : BeginWith words tape left
  pub fits : IsTape tape

-- one more number is read
pub one_more : (words : List (List ℕ)) (left : List (List ℕ)) (tape : List ℤ) (v : ℤ) → TapeSoFar words (signed_decimal v ∷ left) tape →
    IsSmall v → length tape < 4096 → TapeSoFar words left (tape ++ v ∷ [])
one_more words left tape v h small room = record {
  read = h.read ∙ (sym (append_assoc (map signed_decimal tape) (map signed_decimal (v ∷ [])) left) ∙ ap (λ ws. ws ++ left)
      (sym (map-append signed_decimal tape (v ∷ []))));
  fits = record { small = all_small tape h.fits.small; few = simp length-append (omega arith) };
}
  where
    all_small : (xs : List ℤ) → list_all is_small xs ≡ true → list_all is_small (xs ++ v ∷ []) ≡ true
    all_small [] p = rw (small_so v small) refl
    all_small (x ∷ xs) p = both (is_small x) (list_all is_small xs) (list_all is_small (xs ++ v ∷ [])) p (all_small xs)
      where
        both : (a b c : Bool) → (a && b) ≡ true → (b ≡ true → c ≡ true) → (a && c) ≡ true
        both true b c g more = more g
        both false b c g more = g

-- a number behind the most that a tape may have is one too many
longest : (xs ys : List ℤ) (v : ℤ) (left more : List (List ℕ)) → list_all is_small xs ≡ true → BeginsNoNumber more → IsSmall v →
    map signed_decimal xs ++ signed_decimal v ∷ left ≡ map signed_decimal ys ++ more → length xs < length ys
longest [] [] v left more p other small e = absurd (other v left small (sym e))
longest [] (y ∷ ys) v left more p other small e = omega arith
longest (x ∷ xs) [] v left more p other small e =
    absurd (other x (map signed_decimal xs ++ signed_decimal v ∷ left) (small_is x (first_so (is_small x) (list_all is_small xs) p))
    (sym e))
longest (x ∷ xs) (y ∷ ys) v left more p other small e =
    let rest : map signed_decimal xs ++ signed_decimal v ∷ left ≡ map signed_decimal ys ++ more = cc in
    let ih = longest xs ys v left more (second_so (is_small x) (list_all is_small xs) p) other small rest in omega arith

pub too_long : (words left : List (List ℕ)) (tape : List ℤ) (v : ℤ) → TapeSoFar words (signed_decimal v ∷ left) tape → IsSmall v →
    length tape ≡ 4096 → (other : List ℤ) (more : List (List ℕ)) → ¬ TakesNumbers words other more
too_long words left tape v h small full other more t =
    absurd (omega (arith, longest tape other v left more h.fits.small t.other small (sym h.read ∙ t.read), t.fits.few))

-- and they don't begin with `|`
marks_differ : ◌≢◌ {A = List ℕ} (124 ∷ []) (64 ∷ [])
marks_differ e = cc

asked_bar : (n : ℕ) (inner : List (List ℕ)) → codes "|" ∷ inner ≢ codes "@" ∷ decimal n ∷ []
asked_bar n inner e = marks_differ (first_word (124 ∷ []) (64 ∷ []) inner (decimal n ∷ []) e)

none_bar : (word : List ℕ) (inner : List (List ℕ)) → word ∷ inner ≢ []
none_bar word inner e = cc

ask_no_bar : (ask : Option ℕ) (inner : List (List ℕ)) → codes "|" ∷ inner ≢ ask_words ask
ask_no_bar None = none_bar (codes "|")
ask_no_bar (Some n) = asked_bar n

-- behind `|` stand the numbers of the tape, and then the words of the asked abort
pub behind_bar : (words inner : List (List ℕ)) (tape : List ℤ) (ask : Option ℕ) → words ≡ codes "|" ∷ inner → AreRest words tape ask →
    TakesNumbers inner tape (ask_words ask)
behind_bar words inner tape ask bar h =
    elim h.taped [
      | inl is ↦ record {
        read = behind_first (codes "|") (codes "|") inner (map signed_decimal tape ++ ask_words ask)
            (sym bar ∙ (h.read ∙ ap (λ ws. ws ++ ask_words ask) is));
        fits = h.fits;
        other = ask_no_number ask;
      }
      | inr is ↦ absurd (ask_no_bar ask inner (sym bar ∙ (h.read ∙ ap (λ ws. ws ++ ask_words ask) is.0)))
    ]

-- words that don't begin with `|` have no tape
pub without_bar : (words : List (List ℕ)) (tape : List ℤ) (ask : Option ℕ) → ((left : List (List ℕ)) → words ≢ codes "|" ∷ left) →
    AreRest words tape ask → (tape ≡ []) × (words ≡ ask_words ask)
without_bar words tape ask none h =
    elim h.taped [
      | inl is ↦ absurd (none (map signed_decimal tape ++ ask_words ask) (h.read ∙ ap (λ ws. ws ++ ask_words ask) is))
      | inr is ↦ (is.1, h.read ∙ ap (λ ws. ws ++ ask_words ask) is.0)
    ]

-- `|` and the numbers of a tape are the words of a tape
pub tape_behind_bar : (words inner left : List (List ℕ)) (tape : List ℤ) → words ≡ codes "|" ∷ inner → TakesNumbers inner tape left →
    TakesTape words tape left
tape_behind_bar words inner left tape bar h =
    record {
      tape_words = codes "|" ∷ map signed_decimal tape;
      read = bar ∙ ap (λ ws. codes "|" ∷ ws) h.read;
      taped = inl refl;
      fits =
          h.fits;
    }

-- an asked abort is spelled in one way
pub ask_once : (a b : Option ℕ) → ask_fits a ≡ true → ask_fits b ≡ true → ask_words a ≡ ask_words b → a ≡ b
ask_once None None p q e = refl
ask_once None (Some n) p q e = absurd (none_bar (codes "@") (decimal n ∷ []) (sym e))
ask_once (Some m) None p q e = absurd (none_bar (codes "@") (decimal m ∷ []) e)
ask_once (Some m) (Some n) p q e = ap (λ k. Some k)
    (decimal_injective m n (below m p) (below n q)
    (first_word (decimal m) (decimal n) [] [] (behind_first (codes "@") (codes "@") (decimal m ∷ []) (decimal n ∷ []) e)))
  where
    below : (k : ℕ) → nat_le k 65536 ≡ true → k < 2 ^ 64
    below k h = grind (arith, nat_tests)

-- what stands behind the parameters is a tape and an asked abort in one way
pub rest_once : (words : List (List ℕ)) (xs ys : List ℤ) (a b : Option ℕ) → AreRest words xs a → AreRest words ys b → (xs ≡ ys) ×
    (ask_words a ≡ ask_words b)
rest_once words xs ys a b h g =
    elim h.taped [
      | inl is ↦ (let bar = h.read ∙ ap (λ ws. ws ++ ask_words a) is in
          taken_once (map signed_decimal xs ++ ask_words a) xs ys (ask_words a) (ask_words b)
          (behind_bar words (map signed_decimal xs ++ ask_words a) xs a bar h)
          (behind_bar words (map signed_decimal xs ++ ask_words a) ys b bar g))
      | inr is ↦ (let bare = h.read ∙ ap (λ ws. ws ++ ask_words a) is.0 in
          let other = without_bar words ys b (λ left e. ask_no_bar a left (sym e ∙ bare)) g in
          (is.1 ∙ sym other.0, sym bare ∙ other.1))
    ]
