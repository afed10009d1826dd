-- The words of a script's line, read one after the other.
use Rattle.std.proofs.Common.{◌≡◌, ◌≢◌, ℕ, ◌<◌, ◌≤◌, true, false, Bool, List, [], ◌∷◌, ◌++◌, length, map, refl, sym, ap, subst, ◌∙◌, arith}
use Rattle.std.proofs.Common.{ℤ, Option, Some, None}
use Rattle.std.specs.Prelude.{position, slice_get, ◌==◌, ◌&&◌, nat_le}
use Rattle.std.specs.List.{list_all}
use Rattle.std.specs.Fmt.{signed_decimal}
use Rattle.std.specs.Cmp.{first_so, second_so}
use Rattle.std.proofs.lemmas.Bool.{eqb-true}
use Rattle.std.proofs.lemmas.Bool.Decides.{nat_tests}
use Rattle.std.specs.Prelude.{All}
use Rattle.std.proofs.lemmas.List.Elements.{All-cons, All-nil, All-same}
use Rattle.acc_base.specs.declared.designs.Design.{Design}
use Rattle.acc_base.specs.declared.designs.TxType.{TxType}
use Rattle.acc_base.specs.declared.machines.Call.{Call}
use Rattle.acc_base.specs.Machine.{call_fits, ask_fits}
use Rattle.acc_base.specs.Numbers.{is_small, IsSmall}
use Rattle.acc_base.proofs.Smalls.{small_is}
use Rattle.acc_script.specs.Pieces.{words_of}
use Rattle.acc_script.specs.LineReadings.{IsTooMuch}
use Rattle.acc_script.specs.CallLines.{is_named, ask_words, FitsType, IsCallLine, SaysCall, most_calls}
use Rattle.acc_script.specs.CallParts.{IsCalled, AreParameters, BeginWith, IsTape, AreRest, AreAsk}
use Rattle.acc_script.proofs.Decimals.{small_once}
use Rattle.acc_script.proofs.LineSteps.{SaysOne}
use Rattle.acc_script.proofs.TapeSteps.{rest_once, ask_once}

-- The first n words are read as values, and others are left.
pub record ValuesSoFar (words left : List (List ℕ)) (n : ℕ) (values : List ℤ) : Type 0 where
  pub read : BeginWith words values left
  pub counted : length values ≡ n
  pub small : list_all is_small values ≡ true

-- what stands behind the words of some values begins with the word of a further one
value_among : (values all : List ℤ) (left more : List (List ℕ)) → length values < length all → list_all is_small all ≡ true →
    map signed_decimal values ++ left ≡ map signed_decimal all ++ more → (v : ℤ) × (rest : List (List ℕ)) × IsSmall v ×
    (left ≡ signed_decimal v ∷ rest)
value_among values [] left more short small e = absurd (omega arith)
value_among [] (x ∷ all) left more short small e =
    (x, map signed_decimal all ++ more, small_is x (first_so (is_small x) (list_all is_small all) small), e)
value_among (y ∷ values) (x ∷ all) left more short small e =
    let rest : map signed_decimal values ++ left ≡ map signed_decimal all ++ more = cc in
    value_among values all left more (omega arith) (second_so (is_small x) (list_all is_small all) small) rest

-- a word that is no value refuses the words
pub no_value : (words left : List (List ℕ)) (word : List ℕ) (n count : ℕ) (values : List ℤ) → ValuesSoFar words (word ∷ left) n values →
    n < count → ((v : ℤ) → IsSmall v → word ≢ signed_decimal v) → (all : List ℤ) (more : List (List ℕ)) → AreParameters count all →
    ¬ BeginWith words all more
no_value words left word n count values h less other all more parts e =
    let v = value_among values all (word ∷ left) more (omega (arith, h.counted, parts.counted)) parts.small (sym h.read ∙ e) in
    other v.0 v.2 (let same : word ∷ left ≡ signed_decimal v.0 ∷ v.1 = v.3 in cc)

-- ---- a line

-- what fits a call: its parameters, its tape and its asked abort
record Fitting (kind : TxType) (call : Call) : Type 0 where
  pub params : AreParameters kind.params call.params
  pub tape : IsTape call.tape
  pub ask : ask_fits call.ask ≡ true

-- a call that fits its type has these as the type wants them
fitting : (kind : TxType) (call : Call) → call_fits (Some kind) call ≡ true → Fitting kind call
fitting kind call h = by (length call.params == kind.params) (list_all is_small call.params) (list_all is_small call.tape)
    (nat_le (length call.tape) 4096) (ask_fits call.ask) refl refl refl refl refl h
  where
    by : (v w x y z : Bool) → (length call.params == kind.params) ≡ v → list_all is_small call.params ≡ w →
        list_all is_small call.tape ≡ x → nat_le (length call.tape) 4096 ≡ y → ask_fits call.ask ≡ z →
        ((((v && w) && x) && y) && z) ≡ true → Fitting kind call
    by true true true true true a b c d e g =
        record {
          params = record { counted = eqb-true (length call.params) kind.params a; small = b };
          tape =
              record { small = c; few = few d };
          ask = e;
        }
      where
        few : nat_le (length call.tape) 4096 ≡ true → length call.tape ≤ 4096
        few m = grind (arith, nat_tests)
    by true true true true false a b c d e g = cc
    by true true true false z a b c d e g = cc
    by true true false y z a b c d e g = cc
    by true false x y z a b c d e g = cc
    by false w x y z a b c d e g = cc

-- what a call that a line asks for has, where the line's name is known
record Asked (d : Design) (count : ℕ) (left : List (List ℕ)) (call : Call) : Type 0 where
  pub tape_words : List (List ℕ)
  pub params : AreParameters count call.params
  pub spelled : left ≡ map signed_decimal call.params ++ (tape_words ++ ask_words call.ask)
  pub rest : AreRest (tape_words ++ ask_words call.ask) call.tape call.ask
  pub ask : ask_fits call.ask ≡ true

same_type : (d : Design) (line name : List ℕ) (left : List (List ℕ)) (ty count : ℕ) (call : Call) → words_of line ≡ name ∷ left →
    IsCalled d name ty count → IsCallLine d line call → call.ty ≡ ty
same_type d line name left ty count call words called says =
    let same_name : says.name ≡ name = (let e = sym says.spelled ∙ words in cc) in
    let e : Some call.ty ≡ Some ty = sym says.named ∙ (ap (λ n. position (is_named n) d.types) same_name ∙ called.named) in cc

asked : (d : Design) (line name : List ℕ) (left : List (List ℕ)) (ty count : ℕ) (call : Call) → words_of line ≡ name ∷ left →
    IsCalled d name ty count → IsCallLine d line call → Asked d count left call
asked d line name left ty count call words called says =
    let spelled : left ≡ map signed_decimal call.params ++ (says.tape_words ++ ask_words call.ask) =
    (let e = sym words ∙ says.spelled in cc) in
    let found : slice_get d.types call.ty ≡ Some called.kind =
    ap (slice_get d.types) (same_type d line name left ty count call words called says) ∙ called.found in
    let fits : call_fits (Some called.kind) call ≡ true = sym (ap (λ k. call_fits k call) found) ∙ says.fits in
    let parts = fitting called.kind call fits in
    record {
      tape_words = says.tape_words;
      params = subst (λ n. AreParameters n call.params) (sym called.counted) parts.params;
      spelled =
          spelled;
      rest = record { tape_words = says.tape_words; read = refl; taped = says.taped; fits = parts.tape };
      ask = parts.ask;
    }

-- a line whose other words don't begin with parameters asks for no call
pub no_parameters : (d : Design) (line name : List ℕ) (left : List (List ℕ)) (ty count : ℕ) (call : Call) → words_of line ≡ name ∷ left →
    IsCalled d name ty count → ((values : List ℤ) (more : List (List ℕ)) → AreParameters count values → ¬ BeginWith left values more) →
    ¬ IsCallLine d line call
no_parameters d line name left ty count call words called none says =
    let a = asked d line name left ty count call words called says in
    none call.params (a.tape_words ++ ask_words call.ask) a.params a.spelled

-- as many numbers within 2^45 of 0 are spelled in one way, and the same words are left
same_values : (xs ys : List ℤ) (left more : List (List ℕ)) → length xs ≡ length ys → list_all is_small xs ≡ true →
    list_all is_small ys ≡ true → map signed_decimal xs ++ left ≡ map signed_decimal ys ++ more → (xs ≡ ys) × (left ≡ more)
same_values [] [] left more n p q e = (refl, e)
same_values [] (y ∷ ys) left more n p q e = absurd (omega arith)
same_values (x ∷ xs) [] left more n p q e = absurd (omega arith)
same_values (x ∷ xs) (y ∷ ys) left more n p q e =
    let first : signed_decimal x ≡ signed_decimal y = cc in
    let rest : map signed_decimal xs ++ left ≡ map signed_decimal ys ++ more = cc in
    let a : x ≡ y = small_once x y (small_is x (first_so (is_small x) (list_all is_small xs) p))
    (small_is y (first_so (is_small y) (list_all is_small ys) q)) first in
    let b = same_values xs ys left more (omega arith) (second_so (is_small x) (list_all is_small xs) p)
    (second_so (is_small y) (list_all is_small ys) q) rest in
    ((let c : xs ≡ ys = b.0 in cc), b.1)

-- The name of a line's call and its parameters are read, and others are left.
pub record ParametersRead (d : Design) (line name : List ℕ) (ty count : ℕ) (params : List ℤ) (left : List (List ℕ)) : Type 0 where
  pub behind : List (List ℕ)
  pub words : words_of line ≡ name ∷ behind
  pub called : IsCalled d name ty count
  pub read : BeginWith behind params left
  pub fits : AreParameters count params

-- then the words that are left are those of the call's tape and of its asked abort
pub asked_rest : (d : Design) (line name : List ℕ) (ty count : ℕ) (params : List ℤ) (left : List (List ℕ)) (call : Call) →
    ParametersRead d line name ty count params left → IsCallLine d line call → AreRest left call.tape call.ask × (ask_fits call.ask ≡ true)
asked_rest d line name ty count params left call h says =
    let a = asked d line name h.behind ty count call h.words h.called says in
    let same = same_values params call.params left (a.tape_words ++ ask_words call.ask) (h.fits.counted ∙ sym a.params.counted) h.fits.small
    a.params.small (sym h.read ∙ a.spelled) in
    (subst (λ ws. AreRest ws call.tape call.ask) (sym same.1) a.rest, a.ask)

-- a line asks for no call whose other words are none of a tape and of an asked abort
pub no_tape : (d : Design) (line name : List ℕ) (ty count : ℕ) (params : List ℤ) (left : List (List ℕ)) (call : Call) →
    ParametersRead d line name ty count params left → ((tape : List ℤ) (ask : Option ℕ) → ¬ AreRest left tape ask) →
    ¬ IsCallLine d line call
no_tape d line name ty count params left call h none says =
    none call.tape call.ask (asked_rest d line name ty count params left call h says).0

-- or whose last words are none of an asked abort
pub no_ask : (d : Design) (line name : List ℕ) (ty count : ℕ) (params : List ℤ) (left : List (List ℕ)) (found : List ℤ)
    (more : List (List ℕ)) (call : Call) → ParametersRead d line name ty count params left →
    ((tape : List ℤ) (ask : Option ℕ) → AreRest left tape ask → (tape ≡ found) × (more ≡ ask_words ask)) →
    ((ask : Option ℕ) → ¬ AreAsk more ask) → ¬ IsCallLine d line call
no_ask d line name ty count params left found more call h only none says =
    let a = asked_rest d line name ty count params left call h says in
    none call.ask ((only call.tape call.ask a.0).1, a.1)

-- a line asks for a call of a type that the design has
known : (d : Design) (line : List ℕ) (call : Call) → IsCallLine d line call → (kind : TxType) × (slice_get d.types call.ty ≡ Some kind)
known d line call says = by (slice_get d.types call.ty) refl says.fits
  where
    by : (o : Option TxType) → slice_get d.types call.ty ≡ o → call_fits o call ≡ true → (kind : TxType) ×
        (slice_get d.types call.ty ≡ Some kind)
    by None is e = cc
    by (Some kind) is e = (kind, is)

same_call : (a b : Call) → a.ty ≡ b.ty → a.params ≡ b.params → a.tape ≡ b.tape → a.ask ≡ b.ask → a ≡ b
same_call a b t p r k = λ i. record { ty = t i; params = p i; tape = r i; ask = k i }

-- a line asks for one call
one_call : (d : Design) (line : List ℕ) (a b : Call) → IsCallLine d line a → IsCallLine d line b → a ≡ b
one_call d line a b h g =
    let kind = known d line a h in
    let behind = map signed_decimal a.params ++ (h.tape_words ++ ask_words a.ask) in
    let called : IsCalled d h.name a.ty kind.0.params =
    record { kind = kind.0; named = h.named; numbered = h.numbered; found = kind.1; counted = refl } in
    let p = asked d line h.name behind a.ty kind.0.params a h.spelled called h in
    let q = asked d line h.name behind a.ty kind.0.params b h.spelled called g in
    let types : b.ty ≡ a.ty = same_type d line h.name behind a.ty kind.0.params b h.spelled called g in
    let values = same_values a.params b.params (p.tape_words ++ ask_words a.ask) (q.tape_words ++ ask_words b.ask)
    (p.params.counted ∙ sym q.params.counted) p.params.small q.params.small (sym p.spelled ∙ q.spelled) in
    let both = rest_once (p.tape_words ++ ask_words a.ask) a.tape b.tape a.ask b.ask p.rest
    (subst (λ ws. AreRest ws b.tape b.ask) (sym values.1) q.rest) in
    same_call a b (sym types) values.0 both.0 (ask_once a.ask b.ask p.ask q.ask both.1)

pub says_one : (d : Design) → SaysOne (SaysCall d)
says_one d line xs ys h g = h.alone ∙ (ap (λ call. call ∷ []) (one_call d line h.call g.call h.asked g.asked) ∙ sym g.alone)

-- a line that asks for no call is refused
pub no_call : (d : Design) (line : List ℕ) (n : ℕ) → ((call : Call) → ¬ IsCallLine d line call) → IsTooMuch (SaysCall d) most_calls line n
no_call d line n none = λ here says. absurd (none says.call says.asked)

-- each call that a line says fits its type
pub says_fitting : (d : Design) (line : List ℕ) (calls : List Call) → SaysCall d line calls → All (FitsType d) calls
says_fitting d line calls h = All-same (FitsType d) calls (h.call ∷ []) h.alone
    (All-cons (FitsType d) h.call [] h.asked.fits (All-nil (FitsType d)))
