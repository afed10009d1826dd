-- What `and` and `or` give, along the way that was taken through them.
use Rattle.std.proofs.Common.{◌≡◌, Bool, true, false, sym, ◌∙◌}
use Rattle.std.specs.Prelude.{◌&&◌, ◌||◌}

pub by_first : (a b A B C : Bool) → a ≡ A → a ≡ true → b ≡ B → b ≡ true → b ≡ (A && (B || C))
by_first a b A B C x at y bt = bt ∙ (λ i. (sym at ∙ x) i && ((sym bt ∙ y) i || C))

pub by_second : (a b c A B C : Bool) → a ≡ A → a ≡ true → b ≡ B → b ≡ false → c ≡ C → c ≡ (A && (B || C))
by_second a b c A B C x at y bf z = z ∙ (λ i. (sym at ∙ x) i && ((sym bf ∙ y) i || C))
