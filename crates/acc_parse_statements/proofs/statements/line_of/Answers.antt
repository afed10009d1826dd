use Rattle.std.proofs.Common.{◌≡◌, ℕ, ◌+◌, rules, ap, arith}
use Rattle.acc_parse_statements.specs.Lines.{feeds, OnLine}
use Rattle.acc_parse_statements.proofs.Walks.{at_start, left_at, next_at, at_next, on_line, on_last, is_line_of, others_are}
use Rattle.acc_parse_statements.proofs.statements.line_of.Goals as goal

pub loop-first-init : goal.loop-first-init
loop-first-init c = at_start c.args.text.now c.args.n

-- ---- a line with its line feed

pub ends_of-requires : goal.ends_of-requires
ends_of-requires c =
    let next = next_at c.args.text.now c.loop-first.rest.now c.in-Some.first.now c.in-Some.behind.now c.loop-first.number c.loop-first.from
    c.args.n c.requires c.loop-first.invariant c.in-Some.ensures in
    (next.words, next.lexed)

pub overflow_add-to : goal.overflow_add-to
overflow_add-to c =
    let next = next_at c.args.text.now c.loop-first.rest.now c.in-Some.first.now c.in-Some.behind.now c.loop-first.number c.loop-first.from
    c.args.n c.requires c.loop-first.invariant c.in-Some.ensures in
    omega (arith, next.few, c.in_ok-to.ensures next.words next.lexed)

pub returns-then-n-to : goal.returns-then-n-to
returns-then-n-to c =
    let text = c.args.text.now in
    let number = c.loop-first.number in
    let from = c.loop-first.from in
    let to = from + c.in_ok-to.field-0 in
    let next = next_at text c.loop-first.rest.now c.in-Some.first.now c.in-Some.behind.now number from c.args.n c.requires
    c.loop-first.invariant c.in-Some.ensures in
    let line : OnLine text number from to = on_line text c.loop-first.rest.now c.in-Some.first.now c.in-Some.behind.now next.words number
    from to c.args.n c.loop-first.invariant c.in-Some.ensures next.lexed
    (ap (λ (k : ℕ). from + k) (c.in_ok-to.ensures next.words next.lexed)) in
    record {
      line = is_line_of text number from to c.args.n line c.loop-first.invariant.few c.if-n-to.true;
      statements = line;
      others = others_are text number from to line;
    }

pub loop-first-preserved : goal.loop-first-preserved
loop-first-preserved c =
    let from = c.loop-first.from in
    let next = next_at c.args.text.now c.loop-first.rest.now c.in-Some.first.now c.in-Some.behind.now c.loop-first.number from c.args.n
    c.requires c.loop-first.invariant c.in-Some.ensures in
    at_next c.args.text.now c.loop-first.rest.now c.in-Some.first.now c.in-Some.behind.now next.words c.loop-first.number from
    (from + c.in_ok-to.field-0) c.args.n c.loop-first.invariant c.in-Some.ensures next.lexed
    (ap (λ (k : ℕ). from + k) (c.in_ok-to.ensures next.words next.lexed)) c.if-n-to.false

-- ---- the last line

pub ends_of-requires-2 : goal.ends_of-requires-2
ends_of-requires-2 c =
    let left = left_at c.args.text.now c.loop-first.rest.now c.loop-first.number c.loop-first.from c.args.n c.requires
    c.loop-first.invariant in
    (left.words, left.lexed)

pub overflow_add-to-2 : goal.overflow_add-to-2
overflow_add-to-2 c =
    let left = left_at c.args.text.now c.loop-first.rest.now c.loop-first.number c.loop-first.from c.args.n c.requires
    c.loop-first.invariant in
    omega (arith, left.few, c.in_ok-to-2.ensures left.words left.lexed)

pub returns : goal.returns
returns c =
    let text = c.args.text.now in
    let number = c.loop-first.number in
    let from = c.loop-first.from in
    let to = from + c.in_ok-to-2.field-0 in
    let left = left_at text c.loop-first.rest.now number from c.args.n c.requires c.loop-first.invariant in
    let count = c.in_ok-to-2.ensures left.words left.lexed in
    let none : feeds c.loop-first.rest.now ≡ 0 = search rules in
    let line : OnLine text number from to = on_last text c.loop-first.rest.now left.words number from to c.args.n c.loop-first.invariant
    none left.lexed (ap (λ (k : ℕ). from + k) count) in
    record {
      line = is_line_of text number from to c.args.n line c.loop-first.invariant.few (omega (arith, left.there, count));
      statements = line;
      others = others_are text number from to line;
    }
