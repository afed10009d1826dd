-- A line feed behind a word of a JSON text ends it, as the end of the text does.
use Rattle.std.proofs.Common.{◌≡◌, ℕ, suc, ◌+◌, ◌-◌, ◌≤◌, Bool, true, false, cond, ◌&&◌, ◌||◌, ◌==◌, List, [], ◌∷◌, ◌++◌, length}
use Rattle.std.proofs.Common.{take, drop, Option, Some, None, option_and_then, refl, sym, ap, ap₂, ◌∙◌, subst, arith, length-append}
use Rattle.std.specs.Prelude.{nat_eq, option_map, not}
use Rattle.std.specs.List.{prefix_len, starts_with}
use Rattle.std.specs.Char.{is_ascii_digit}
use Rattle.std.proofs.lemmas.List.{take-append-le}
use Rattle.json.specs.Token.{Token, number, boolean, null, bad}
use Rattle.json.specs.Word.{ends_word, after_digits, after_minus, after_sign, after_whole, after_fraction, after_exponent}
use Rattle.json.specs.Word.{after_number, number_before, literal, word}
use Rattle.json.specs.Ascii as ascii

abbrev feed : List ℕ
feed = 10 ∷ []

abbrev fed : Option (List ℕ) → Option (List ℕ)
fed = option_map (λ r. r ++ feed)

-- ---- tests

cond_fed : (b : Bool) (o p o' p' : Option (List ℕ)) → o' ≡ fed o → p' ≡ fed p → cond b o' p' ≡ fed (cond b o p)
cond_fed true o p o' p' h k = h
cond_fed false o p o' p' h k = k

cond_list : (b : Bool) (xs ys : List ℕ) → cond b (xs ++ feed) (ys ++ feed) ≡ cond b xs ys ++ feed
cond_list true xs ys = refl
cond_list false xs ys = refl

bind_fed : (f : List ℕ → Option (List ℕ)) → ((u : List ℕ) → f (u ++ feed) ≡ fed (f u)) → (o : Option (List ℕ))
    → option_and_then f (fed o) ≡ fed (option_and_then f o)
bind_fed f h None = refl
bind_fed f h (Some r) = h r

ends_fed : (t : List ℕ) → ends_word (t ++ feed) ≡ ends_word t
ends_fed [] = refl
ends_fed (x ∷ xs) = refl

-- ---- numbers

digit_count : (t : List ℕ) → prefix_len is_ascii_digit (t ++ feed) ≡ prefix_len is_ascii_digit t
digit_count [] = refl
digit_count (x ∷ xs) = λ i. cond (is_ascii_digit x) (1 + digit_count xs i) 0

drop_at : (d : Bool) (x n : ℕ) (xs : List ℕ) → drop n (xs ++ feed) ≡ drop n xs ++ feed
    → drop (cond d (1 + n) 0) (x ∷ (xs ++ feed)) ≡ drop (cond d (1 + n) 0) (x ∷ xs) ++ feed
drop_at false x n xs h = refl
drop_at true x n xs h =
    let e : suc n ≡ 1 + n = omega arith in
    subst (λ j. drop j (x ∷ (xs ++ feed)) ≡ drop j (x ∷ xs) ++ feed) e h

digit_drop : (t : List ℕ) → drop (prefix_len is_ascii_digit t) (t ++ feed) ≡ drop (prefix_len is_ascii_digit t) t ++ feed
digit_drop [] = refl
digit_drop (x ∷ xs) = drop_at (is_ascii_digit x) x (prefix_len is_ascii_digit xs) xs (digit_drop xs)

digits : (t : List ℕ) → after_digits (t ++ feed) ≡ fed (after_digits t)
digits t =
    cond_fed (prefix_len is_ascii_digit (t ++ feed) == 0) None (Some (drop (prefix_len is_ascii_digit (t ++ feed)) t)) None
    (Some (drop (prefix_len is_ascii_digit (t ++ feed)) (t ++ feed))) refl
    (ap Some (subst (λ n. drop n (t ++ feed) ≡ drop n t ++ feed) (sym (digit_count t)) (digit_drop t)))
    ∙ ap (λ n. fed (cond (n == 0) None (Some (drop n t)))) (digit_count t)

minus : (t : List ℕ) → after_minus (t ++ feed) ≡ after_minus t ++ feed
minus [] = refl
minus (x ∷ xs) = cond_list (x == ascii.minus) xs (x ∷ xs)

signed : (t : List ℕ) → after_sign (t ++ feed) ≡ after_sign t ++ feed
signed [] = refl
signed (x ∷ xs) = cond_list ((x == ascii.minus) || (x == ascii.plus)) xs (x ∷ xs)

whole : (t : List ℕ) → after_whole (t ++ feed) ≡ fed (after_whole t)
whole [] = refl
whole (x ∷ xs) =
    cond_fed (x == ascii.zero) (Some xs) (after_digits (x ∷ xs)) (Some (xs ++ feed)) (after_digits (x ∷ xs ++ feed)) refl (digits (x ∷ xs))

fraction : (t : List ℕ) → after_fraction (t ++ feed) ≡ fed (after_fraction t)
fraction [] = refl
fraction (x ∷ xs) =
    cond_fed (x == ascii.dot) (after_digits xs) (Some (x ∷ xs)) (after_digits (xs ++ feed)) (Some (x ∷ xs ++ feed)) (digits xs) refl

exponent : (t : List ℕ) → after_exponent (t ++ feed) ≡ fed (after_exponent t)
exponent [] = refl
exponent (x ∷ xs) =
    cond_fed ((x == ascii.lower_e) || (x == ascii.upper_e)) (after_digits (after_sign xs)) (Some (x ∷ xs))
    (after_digits (after_sign (xs ++ feed))) (Some (x ∷ xs ++ feed)) (ap after_digits (signed xs) ∙ digits (after_sign xs)) refl

whole_number : (t : List ℕ) → after_number (t ++ feed) ≡ fed (after_number t)
unfolding after_number
whole_number t =
    ap (λ u. option_and_then after_exponent (option_and_then after_fraction (after_whole u))) (minus t)
    ∙ ap (λ o. option_and_then after_exponent (option_and_then after_fraction o)) (whole (after_minus t))
    ∙ ap (option_and_then after_exponent) (bind_fed after_fraction fraction (after_whole (after_minus t)))
    ∙ bind_fed after_exponent exponent (option_and_then after_fraction (after_whole (after_minus t)))

taken : (t r : List ℕ) → take (length (t ++ feed) - length (r ++ feed)) (t ++ feed) ≡ take (length t - length r) t
taken t r =
    let e : length (t ++ feed) - length (r ++ feed) ≡ length t - length r = omega (arith, length-append t feed, length-append r feed) in
    let few : length t - length r ≤ length t = omega arith in
    ap (λ n. take n (t ++ feed)) e ∙ take-append-le (length t - length r) t feed few

before : (t : List ℕ) (o : Option (List ℕ)) → number_before (t ++ feed) (fed o) ≡ number_before t o
before t None = refl
before t (Some r) = ap₂ (λ b s. cond b (number s) bad) (ends_fed r) (taken t r)

-- ---- literals

-- the rest of a literal stands at the front, and ends there
abbrev stands : List ℕ → List ℕ → Bool
stands name t = starts_with nat_eq t name && ends_word (drop (length name) t)

abbrev no_feed : List ℕ → Bool
no_feed [] = true
no_feed (c ∷ cs) = not (nat_eq c 10) && no_feed cs

not_there : (a b c d : Bool) → (not a && b) ≡ true → (a && c && d) ≡ false
not_there true b c d h = cc
not_there false b c d h = refl

rest_of : (a b : Bool) → (a && b) ≡ true → b ≡ true
rest_of true b h = h
rest_of false b h = cc

in_front : (a b c b' c' : Bool) → (b' && c') ≡ (b && c) → ((a && b') && c') ≡ ((a && b) && c)
in_front true b c b' c' h = h
in_front false b c b' c' h = refl

stands_fed : (name t : List ℕ) → no_feed name ≡ true → stands name (t ++ feed) ≡ stands name t
stands_fed [] t h = ends_fed t
stands_fed (c ∷ cs) [] h =
    not_there (nat_eq c 10) (no_feed cs) (starts_with nat_eq [] cs) (ends_word (drop (length cs) [])) h
stands_fed (c ∷ cs) (x ∷ xs) h =
    in_front (nat_eq c x) (starts_with nat_eq xs cs) (ends_word (drop (length cs) xs)) (starts_with nat_eq (xs ++ feed) cs)
    (ends_word (drop (length cs) (xs ++ feed))) (stands_fed cs xs (rest_of (not (nat_eq c 10)) (no_feed cs) h))

literal_fed : (name : List ℕ) (token : Token) (t : List ℕ) → no_feed name ≡ true → literal name token (t ++ feed) ≡ literal name token t
literal_fed name token t h = ap (λ b. cond b token bad) (stands_fed name t h)

numbers : (t : List ℕ) → number_before (t ++ feed) (after_number (t ++ feed)) ≡ number_before t (after_number t)
numbers t = ap (number_before (t ++ feed)) (whole_number t) ∙ before t (after_number t)

pub word_fed : (x : ℕ) (xs : List ℕ) → word (x ∷ xs ++ 10 ∷ []) ≡ word (x ∷ xs)
unfolding word
word_fed x xs = λ i.
    cond (x == ascii.lower_t) (literal_fed ascii.true_text (boolean true) (x ∷ xs) refl i)
    (cond (x == ascii.lower_f) (literal_fed ascii.false_text (boolean false) (x ∷ xs) refl i)
    (cond (x == ascii.lower_n) (literal_fed ascii.null_text null (x ∷ xs) refl i) (numbers (x ∷ xs) i)))
