-- What is read is within its bounds: parts, numbers, linear values, unknowns and forms.
use Rattle.std.proofs.Common.{◌≡◌, ℕ, ◌+◌, Bool, true, false, List, [], ◌∷◌, refl, ap, sym, ◌∙◌, ℤ, Option, Some, None}
use Rattle.std.specs.Prelude.{◌&&◌, if◌then◌else◌, is_some, option_and_then, ⊤}
use Rattle.std.specs.List.{list_all}
use Rattle.std.specs.Str.{bytes_eq}
use Rattle.std.specs.Str.Parse.{signed_digits_value}
use Rattle.std.specs.Fmt.{signed_decimal}
use Rattle.serde_json.specs.Data.{Data, Items, no_items, item}
use Rattle.serde_json.specs.Find.{at, as_array, as_number, as_u64, as_str}
use Rattle.acc_base.specs.declared.forms.Lin.{Lin}
use Rattle.acc_base.specs.declared.forms.Atom.TheVariants as atom
use Rattle.acc_axioms.proofs.Tests.{both_true}
use Rattle.acc_cert_bounds.specs.InBounds.{is_near, is_narrow}
use Rattle.acc_cert_bounds.specs.InBounds as bounds
use Rattle.acc_base.specs.declared.atoms.AtomKind.{AtomKind}
use Rattle.acc_base.specs.declared.atoms.AtomKind.TheVariants as word
use Rattle.acc_cert_read.specs.Parts.{Part, Good, Off, and_then, gives, under, given, field, ends, one, two, three, items_from, list_of}
use Rattle.acc_cert_read.specs.Spellings.{number_within, index_in}
use Rattle.acc_cert_read.specs.Forms.{index_of, wide_of, narrow_of, word_of, lin_of, lins_of, atom_rest, atom_of, unknown_of, form_of}
use Rattle.acc_cert_read.specs.Words.{atom_word}

-- what a part says, if it says something, passes a test
abbrev pub Within : {A : Type 0} → (A → Bool) → Part A → Type 0
Within ok (Good x) = ok x ≡ true
Within ok (Off path) = ⊤

-- whatever is read passes a test
abbrev pub AllWithin : {A : Type 0} → (A → Bool) → (Data → Part A) → Type 0
AllWithin ok f = (d : Data) → Within ok (f d)

module _ {A B : Type 0} (p : A → Bool) (q : B → Bool) where
  pub then_within : (o : Part A) (f : A → Part B) → Within p o → ((x : A) → p x ≡ true → Within q (f x)) → Within q (and_then o f)
  then_within (Good x) f h g = g x h
  then_within (Off path) f h g = tt

  pub gives_within : (o : Part A) (f : A → B) → Within p o → ((x : A) → p x ≡ true → q (f x) ≡ true) → Within q (gives f o)
  gives_within (Good x) f h g = g x h
  gives_within (Off path) f h g = tt

module _ {A : Type 0} (p : A → Bool) where
  pub under_within : (i : ℕ) (o : Part A) → Within p o → Within p (under i o)
  under_within i (Good x) h = h
  under_within i (Off path) h = tt

  pub given_within : (o : Option A) → ((x : A) → o ≡ Some x → p x ≡ true) → Within p (given o)
  given_within None h = tt
  given_within (Some x) h = h x refl

  pub ends_within : (i : ℕ) (x : A) → p x ≡ true → (d : Data) → Within p (ends i x d)
  ends_within i x h d = by (is_some (at i d))
    where
      by : (b : Bool) → Within p (if b then Off (i ∷ []) else Good x)
      by true = tt
      by false = h

  pub field_within : (f : Data → Part A) → AllWithin p f → (i : ℕ) (d : Data) → Within p (field i f d)
  field_within f h i d = by (at i d)
    where
      by : (o : Option Data) → Within p (and_then (given o) (λ e. under i (f e)))
      by None = tt
      by (Some e) = under_within i (f e) (h e)

  pub one_within : (f : Data → Part A) → AllWithin p f → (i : ℕ) (d : Data) → Within p (one i f d)
  one_within f h i d = then_within p p (field i f d) (λ a. ends (i + 1) a d) (field_within f h i d) (λ a e. ends_within (i + 1) a e d)

  items_within : (f : Data → Part A) → AllWithin p f → (i : ℕ) (ds : Items) → Within (list_all p) (items_from f i ds)
  items_within f h i no_items = refl
  items_within f h i (item d ds) =
      then_within p (list_all p) (under i (f d)) (λ x. gives (λ xs. x ∷ xs) (items_from f (i + 1) ds)) (under_within i (f d) (h d)) (λ x e.
      gives_within (list_all p) (list_all p) (items_from f (i + 1) ds) (λ xs. x ∷ xs) (items_within f h (i + 1) ds) (λ xs g.
      both_true (p x) (list_all p xs) e g))

  pub list_within : (f : Data → Part A) → AllWithin p f → AllWithin (list_all p) (list_of f)
  list_within f h d = by (as_array d)
    where
      by : (o : Option Items) → Within (list_all p) (and_then (given o) (items_from f 0))
      by None = tt
      by (Some ds) = items_within f h 0 ds

abbrev pub triple : {A B C : Type 0} → (A → Bool) → (B → Bool) → (C → Bool) → A × B × C → Bool
triple p q r x = p x.0 && (q x.1 && r x.2)

module _ {A B : Type 0} (p : A → Bool) (q : B → Bool) (f : Data → Part A) (g : Data → Part B) (h : AllWithin p f)
    (k : AllWithin q g) where
  pub two_within : (i : ℕ) (d : Data) → Within (bounds.pair p q) (two i f g d)
  two_within i d =
      then_within p (bounds.pair p q) (field i f d) (λ a. and_then (field (i + 1) g d) (λ b. ends (i + 2) (a, b) d))
      (field_within p f h i d) (λ a e.
      then_within q (bounds.pair p q) (field (i + 1) g d) (λ b. ends (i + 2) (a, b) d)
      (field_within q g k (i + 1) d) (λ b z.
      ends_within (bounds.pair p q) (i + 2) (a, b) (both_true (p a) (q b) e z) d))

  module _ {C : Type 0} (r : C → Bool) (l : Data → Part C) (m : AllWithin r l) where
    pub three_within : (i : ℕ) (d : Data) → Within (triple p q r) (three i f g l d)
    three_within i d =
        then_within p (triple p q r) (field i f d)
        (λ a. and_then (field (i + 1) g d) (λ b. and_then (field (i + 2) l d) (λ c. ends (i + 3) (a, b, c) d)))
        (field_within p f h i d) (λ a e.
        then_within q (triple p q r) (field (i + 1) g d) (λ b. and_then (field (i + 2) l d) (λ c. ends (i + 3) (a, b, c) d))
        (field_within q g k (i + 1) d) (λ b z.
        then_within r (triple p q r) (field (i + 2) l d) (λ c. ends (i + 3) (a, b, c) d)
        (field_within r l m (i + 2) d) (λ c y.
        ends_within (triple p q r) (i + 3) (a, b, c) (both_true (p a) (q b && r c) e (both_true (q b) (r c) z y)) d)))

-- ---- numbers

number_fits : (fits : ℤ → Bool) (o : Option (List ℕ)) (z : ℤ) → option_and_then (number_within fits) o ≡ Some z → fits z ≡ true
number_fits fits None z h = absurd (cc)
number_fits fits (Some s) z h =
    by (signed_digits_value 10 s) (fits (signed_digits_value 10 s)) (bytes_eq (signed_decimal (signed_digits_value 10 s)) s) refl h
  where
    by : (y : ℤ) (a b : Bool) → fits y ≡ a → (if a && b then Some y else None) ≡ Some z → fits z ≡ true
    by y true true e k = let s : y ≡ z = cc in ap fits (sym s) ∙ e
    by y true false e k = absurd (cc)
    by y false b e k = absurd (cc)

pub wide_within : AllWithin is_near wide_of
wide_within d = given_within is_near (option_and_then (number_within is_near) (as_str d)) (number_fits is_near (as_str d))

pub narrow_within : AllWithin is_narrow narrow_of
narrow_within d = given_within is_narrow (option_and_then (number_within is_narrow) (as_str d)) (number_fits is_narrow (as_str d))

pub index_within : AllWithin bounds.index index_of
index_within d = by (option_and_then as_u64 (as_number d))
  where
    low : (n : ℕ) (b : Bool) → bounds.index n ≡ b → Within bounds.index (given (if b then Some n else None))
    low n true e = e
    low n false e = tt

    by : (o : Option ℕ) → Within bounds.index (given (option_and_then index_in o))
    by None = tt
    by (Some n) = low n (bounds.index n) refl

-- ---- values

coefficient_within : AllWithin (bounds.pair bounds.index is_narrow) (two 0 index_of narrow_of)
coefficient_within d = two_within bounds.index is_narrow index_of narrow_of index_within narrow_within 0 d

pub lin_within : AllWithin bounds.lin lin_of
lin_within d =
    let coefficients = list_within (bounds.pair bounds.index is_narrow) (two 0 index_of narrow_of) coefficient_within in
    gives_within (bounds.pair (list_all (bounds.pair bounds.index is_narrow)) is_narrow) bounds.lin
    (two 0 (list_of (two 0 index_of narrow_of)) narrow_of d) (λ p. record { coeffs = p.0; constant = p.1 })
    (two_within (list_all (bounds.pair bounds.index is_narrow)) is_narrow (list_of (two 0 index_of narrow_of)) narrow_of
    coefficients narrow_within 0 d) (λ p h. h)

pub lins_within : AllWithin bounds.lins lins_of
lins_within = list_within bounds.lin lin_of lin_within

-- a table and a key, and a number behind them
abbrev pub keyed : ℕ × List Lin → Bool
keyed = bounds.pair bounds.index bounds.lins

abbrev pub numbered : ℕ × List Lin × ℕ → Bool
numbered = triple bounds.index bounds.lins bounds.index

pub key_within : (i : ℕ) (d : Data) → Within keyed (two i index_of lins_of d)
key_within i d = two_within bounds.index bounds.lins index_of lins_of index_within lins_within i d

pub key_number_within : (i : ℕ) (d : Data) → Within numbered (three i index_of lins_of index_of d)
key_number_within i d =
    three_within bounds.index bounds.lins index_of lins_of index_within lins_within bounds.index index_of index_within i d

rest_within : (w : Option AtomKind) (d : Data) → Within bounds.atom_in (atom_rest w d)
rest_within None d = tt
rest_within (Some word.One) d = ends_within bounds.atom_in 1 atom.One refl d
rest_within (Some word.Var) d =
    gives_within bounds.index bounds.atom_in (one 1 index_of d) atom.Var (one_within bounds.index index_of index_within 1 d) (λ x h. h)
rest_within (Some word.Has) d =
    gives_within keyed bounds.atom_in (two 1 index_of lins_of d) (λ p. atom.Has p.0 p.1) (key_within 1 d) (λ p h. h)
rest_within (Some word.Col) d =
    gives_within numbered bounds.atom_in (three 1 index_of lins_of index_of d) (λ p. atom.Col p.0 p.1 p.2) (key_number_within 1 d)
    (λ p h. h)
rest_within (Some word.Count) d =
    gives_within keyed bounds.atom_in (two 1 index_of lins_of d) (λ p. atom.Count p.0 p.1) (key_within 1 d) (λ p h. h)
rest_within (Some word.Sum) d =
    gives_within numbered bounds.atom_in (three 1 index_of lins_of index_of d) (λ p. atom.Sum p.0 p.1 p.2) (key_number_within 1 d)
    (λ p h. h)

-- what is read by its first word
pub worded : {A : Type 0} (p : A → Bool) (f : List ℕ → Part A) → ((w : List ℕ) → Within p (f w)) → (d : Data)
    → Within p (and_then (field 0 word_of d) f)
worded p f h d = by (field 0 word_of d)
  where
    by : (o : Part (List ℕ)) → Within p (and_then o f)
    by (Good w) = h w
    by (Off path) = tt

atom_within : AllWithin bounds.atom_in atom_of
atom_within d = worded bounds.atom_in (λ w. atom_rest (atom_word w) d) (λ w. rest_within (atom_word w) d) d

pub unknown_within : AllWithin bounds.unknown unknown_of
unknown_within d =
    gives_within (bounds.pair bounds.lins bounds.atom_in) bounds.unknown (two 0 lins_of atom_of d) (λ p. record { under = p.0; atom = p.1 })
    (two_within bounds.lins bounds.atom_in lins_of atom_of lins_within atom_within 0 d) (λ p h. h)

term_within : AllWithin (bounds.pair bounds.unknown is_near) (two 0 unknown_of wide_of)
term_within d = two_within bounds.unknown is_near unknown_of wide_of unknown_within wide_within 0 d

pub form_within : AllWithin bounds.form_in form_of
form_within d =
    let terms = list_within (bounds.pair bounds.unknown is_near) (two 0 unknown_of wide_of) term_within in
    gives_within (bounds.pair (list_all (bounds.pair bounds.unknown is_near)) is_near) bounds.form_in
    (two 0 (list_of (two 0 unknown_of wide_of)) wide_of d) (λ p. record { terms = p.0; constant = p.1 })
    (two_within (list_all (bounds.pair bounds.unknown is_near)) is_near (list_of (two 0 unknown_of wide_of)) wide_of
    terms wide_within 0 d) (λ p h. h)
