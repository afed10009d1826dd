-- Which line an error names.
use Rattle.std.proofs.Common.{◌≡◌, ℕ, Result, Err, refl, sym, ap, ◌∙◌}
use Rattle.acc_script.specs.declared.errors.LineError.{LineError}
use Rattle.acc_script.specs.declared.errors.LineError.TheVariants as line_error
use Rattle.acc_script.specs.declared.errors.ScriptError.{ScriptError}
use Rattle.acc_script.specs.declared.errors.ScriptError.TheVariants as script_error

-- an error with a line is that of the line at hand, which is refused
pub named_line : (e : LineError) (r : ScriptError) (count n : ℕ) → (e ≡ line_error.Refused → r ≡ script_error.Line count) →
    (e ≡ line_error.Memory → r ≡ script_error.Memory) → r ≡ script_error.Line n → (e ≡ line_error.Refused) × (count ≡ n)
named_line line_error.Refused r count n refused memory is =
    (refl, (let same : script_error.Line count ≡ script_error.Line n = sym (refused refl) ∙ is in cc))
named_line line_error.Memory r count n refused memory is =
    absurd (let wrong : script_error.Memory ≡ script_error.Line n = sym (memory refl) ∙ is in cc)

-- an error that is handed on is the same
pub handed_on : {A B : Type 0} (r : Result A LineError) (x y : LineError) → r ≡ Err x → x ≡ y → r ≡ Err line_error.Refused →
    ◌≡◌ {A = Result B LineError} (Err y) (Err line_error.Refused)
handed_on r x y is same refused = let e : y ≡ line_error.Refused = cc in ap (λ z. Err z) e
