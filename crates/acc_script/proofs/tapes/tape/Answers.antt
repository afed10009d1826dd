use Rattle.std.proofs.Common.{◌≡◌, List, ℕ, ℤ, Option, sym}
use Rattle.std.proofs.lemmas.Result.{IfOk-weaker}
use Rattle.acc_script.specs.CallLines.{ask_words}
use Rattle.acc_script.specs.CallParts.{TakesNumbers, TakesTape, AreRest}
use Rattle.acc_script.proofs.TapeSteps.{tape_behind_bar, behind_bar, taken_once}
use Rattle.acc_script.proofs.tapes.tape.Goals as goal

pub returns-then-skip-clause-ok : goal.returns-then-skip-clause-ok
returns-then-skip-clause-ok c =
    IfOk-weaker c.numbers.result (λ tape. TakesNumbers c.skip.new.self tape c.numbers.new.words)
    (λ tape. TakesTape c.args.words.now tape c.numbers.new.words)
    (λ tape h. tape_behind_bar c.args.words.now c.skip.new.self c.numbers.new.words tape c.if-skip.ensures h) c.numbers.ensures.ok

pub returns-then-skip-clause-only : goal.returns-then-skip-clause-only
returns-then-skip-clause-only c =
    let words = c.args.words.now in
    let inner = c.skip.new.self in
    let left = c.numbers.new.words in
    IfOk-weaker c.numbers.result (λ found. TakesNumbers inner found left) (λ found. (tape : List ℤ) (ask : Option ℕ) →
    AreRest words tape ask → (tape ≡ found) × (left ≡ ask_words ask)) (λ found h tape ask rest.
    let once = taken_once inner found tape left (ask_words ask) h (behind_bar words inner tape ask c.if-skip.ensures rest) in
    (sym once.0, once.1)) c.numbers.ensures.ok

pub returns-then-skip-clause-refused : goal.returns-then-skip-clause-refused
returns-then-skip-clause-refused c = λ h tape ask rest. c.numbers.ensures.refused h tape (ask_words ask)
    (behind_bar c.args.words.now c.skip.new.self tape ask c.if-skip.ensures rest)
