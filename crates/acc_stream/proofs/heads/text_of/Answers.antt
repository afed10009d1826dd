use Rattle.std.proofs.Common.{◌≡◌, ◌≢◌, ◌+◌, ◌-◌, ℕ, List, length, take, drop, refl, sym, ap, subst, ◌∙◌, arith, rules}
use Rattle.std.specs.Int.{w32, from_be_bytes}
use Rattle.std.proofs.lemmas.List.{take_rest}
use Rattle.acc_stream.specs.Streams.{text_long, HasText}
use Rattle.acc_stream.proofs.Texts.{whole_text}
use Rattle.acc_stream.proofs.heads.text_of.Goals as goal

-- the number that was read is the text's length
long_is : (bytes : List ℕ) (n : ℕ) → n ≡ from_be_bytes w32 (take 4 (take (length bytes - 2) (drop 2 bytes))) → n ≡ text_long bytes
long_is bytes n is = is ∙ ap (λ (l : List ℕ). from_be_bytes w32 (take 4 l)) (take_rest bytes 2)

-- and the bytes that were compared are the text
text_is : (bytes : List ℕ) (n : ℕ) → n ≡ text_long bytes → take (6 + n - 6) (drop 6 bytes) ≡ take (text_long bytes) (drop 6 bytes)
text_is bytes n is = let same : 6 + n - 6 ≡ text_long bytes = omega (arith, is) in ap (λ k. take k (drop 6 bytes)) same

pub returns-then-eq : goal.returns-then-eq
returns-then-eq c =
    let bytes = c.args.bytes.now in
    let base = c.args.base.now in
    let n = c.number_of-long.result in
    let long = long_is bytes n c.number_of-long.ensures in
    let same : take (6 + n - 6) (drop 6 bytes) ≡ base = search rules in
    let whole = whole_text bytes base c.args.version (λ i. omega (arith, c.type_inv.bytes i)) c.requires
    (omega (arith, long, c.if-bytes-long.false, c.if-bytes-lt6.false)) (sym same ∙ text_is bytes n long) in (
      subst (λ k. HasText bytes base c.args.version (drop (6 + k) bytes)) (sym long) whole.0,
      omega (arith, long, whole.1),
      omega (arith, c.if-bytes-long.false, c.if-bytes-lt6.false),
    )

pub returns-else-eq : goal.returns-else-eq
returns-else-eq c =
    let bytes = c.args.bytes.now in
    let base = c.args.base.now in
    let n = c.number_of-long.result in
    let long = long_is bytes n c.number_of-long.ensures in
    let other : take (6 + n - 6) (drop 6 bytes) ≢ base = search rules in
    let text = take (text_long bytes) (drop 6 bytes) in
    let whole = whole_text bytes text c.args.version (λ i. omega (arith, c.type_inv.bytes i)) c.requires
    (omega (arith, long, c.if-bytes-long.false, c.if-bytes-lt6.false)) refl in
    record {
      text = text;
      version = c.args.version;
      rest = drop (6 + text_long bytes) bytes;
      has = whole.0;
      other = λ is. other (text_is bytes n long ∙ is);
    }
