-- The reply lines of a state's transactions, one after the other.
use Rattle.std.proofs.Common.{◌≡◌, ℕ, zero, suc, ◌+◌, ◌≤◌, List, [], ◌∷◌, ◌++◌, length, Option, Some, None, refl, sym, ap, ◌∙◌}
use Rattle.std.proofs.Common.{append_assoc, add-one, arith}
use Rattle.std.specs.Prelude.{option_and_then, slice_get}
use Rattle.std.specs.List.{flat_map, range_with_len}
use Rattle.std.specs.Fmt.{decimal}
use Rattle.std.proofs.lemmas.List.{append-nil}
use Rattle.std.proofs.lemmas.Option.{none-some}
use Rattle.acc_base.specs.declared.designs.Design.{Design}
use Rattle.acc_base.specs.declared.machines.Event.{Event}
use Rattle.acc_base.specs.declared.machines.Reply.{Reply}
use Rattle.acc_base.specs.declared.machines.Transaction.{Transaction}
use Rattle.acc_base.specs.declared.machines.Transaction.TheVariants.{Forward, Undoing, Ended}
use Rattle.acc_base.specs.Invariant.{IsSteady, IsGood}
use Rattle.acc_base.specs.Lines.{line, outcome_text, rest_text}
use Rattle.acc_base.specs.Machine.{World, reply_at, reply_in, transaction_at, unfinished}
use Rattle.acc_lift.specs.Acceptance.{IsAccepted}
use Rattle.acc_lift.proofs.FormRules.{run_rules}
use Rattle.acc_lift.proofs.Recovering.{recovers_lawfully}
use Rattle.acc_lift.proofs.Transactions.{at_number, at_within, none_open}
use Rattle.acc_recover.specs.Recoveries.{IsRecovery}
use Rattle.acc_recover.proofs.Ends.{kept_run}
use Rattle.acc_journalled.specs.Recovering.{number_line, replies_of}

-- a recovered state is steady
pub recovered_steady : (d : Design) (found : List Event) (w : World) → IsAccepted d → IsRecovery d found w → IsSteady d w
recovered_steady d found w accepted r =
    (recovers_lawfully d accepted.sound (run_rules d accepted.formed) r.more r.first w
    (kept_run d d found r.first accepted refl r.comes).good.steady r.recovers).2

-- after a recovery nothing is unfinished
pub none_unfinished : (d : Design) (found : List Event) (w : World) → IsAccepted d → IsRecovery d found w → unfinished w ≡ []
none_unfinished d found w accepted r =
    (recovers_lawfully d accepted.sound (run_rules d accepted.formed) r.more r.first w
    (kept_run d d found r.first accepted refl r.comes).good.steady r.recovers).3

-- ---- lines

pub flat_more : (f : ℕ → List ℕ) (a n : ℕ) → flat_map f (range_with_len a (suc n)) ≡ flat_map f (range_with_len a n) ++ f (a + n)
flat_more f a zero = let e : a ≡ a + 0 = omega arith in append-nil (f a) ∙ ap f e
flat_more f a (suc n) =
    let e : (a + 1) + n ≡ a + suc n = omega arith in
    ap (λ (z : List ℕ). f a ++ z) (flat_more f (a + 1) n ∙ ap (λ (k : ℕ). flat_map f (range_with_len (a + 1) n) ++ f k) e)
    ∙ sym (append_assoc (f a) (flat_map f (range_with_len (a + 1) n)) (f (a + suc n)))

-- one line more
pub line_more : (w : World) (old new : List ℕ) (n : ℕ) (reply : Reply) → old ≡ flat_map (number_line w) (range_with_len 1 n)
    → reply_at (n + 1) w ≡ Some reply → new ≡ old ++ line (decimal (n + 1) ++ outcome_text reply.outcome)
    → new ≡ flat_map (number_line w) (range_with_len 1 (n + 1))
line_more w old new n reply so_far at more =
    let place : n + 1 ≡ 1 + n = omega arith in
    let said : line (decimal (n + 1) ++ outcome_text reply.outcome) ≡ number_line w (n + 1) =
    ap (λ (x : Option Reply). line (decimal (n + 1) ++ rest_text x)) (sym at) in
    more ∙ (λ i. so_far i ++ said i) ∙ ap (λ (k : ℕ). flat_map (number_line w) (range_with_len 1 n) ++ number_line w k) place
    ∙ sym (flat_more (number_line w) 1 n) ∙ ap (λ (k : ℕ). flat_map (number_line w) (range_with_len 1 k)) (sym (add-one n))

-- ---- how many

-- a transaction with a reply is one of the state's
pub replied_within : (w : World) (n : ℕ) (reply : Reply) → reply_at (n + 1) w ≡ Some reply → n + 1 ≤ length w.transactions
replied_within w n reply h = by (transaction_at (n + 1) w.transactions) refl h
  where
    by : (o : Option Transaction) → transaction_at (n + 1) w.transactions ≡ o → option_and_then reply_in o ≡ Some reply
        → n + 1 ≤ length w.transactions
    by None e k = absurd (none-some reply k)
    by (Some x) e k = (at_within (n + 1) w.transactions x e).1

-- where nothing is unfinished, each of them has its reply
all_within : (ts : List Transaction) (n : ℕ) → slice_get ts n ≡ None → length ts ≤ n
all_within [] n h = omega arith
all_within (t ∷ ts) zero h = absurd (none-some t (sym h))
all_within (t ∷ ts) (suc n) h = let l = all_within ts n h in omega arith

unreplied_beyond : (w : World) (n : ℕ) → unfinished w ≡ [] → reply_at (n + 1) w ≡ None → length w.transactions ≤ n
unreplied_beyond w n ended h =
    by (slice_get w.transactions n) refl (ap (option_and_then reply_in) (sym (at_number w.transactions n)) ∙ h)
  where
    by : (o : Option Transaction) → slice_get w.transactions n ≡ o → option_and_then reply_in (slice_get w.transactions n) ≡ None
        → length w.transactions ≤ n
    by None e k = all_within w.transactions n e
    by (Some (Forward f)) e k = absurd (none_open w.transactions ended n (Forward f) f e refl)
    by (Some (Undoing f c)) e k = absurd (none_open w.transactions ended n (Undoing f c) f e refl)
    by (Some (Ended reply)) e k =
        absurd (none-some reply (sym k ∙ ap (option_and_then reply_in) e))

same_count : (m n : ℕ) → m ≤ n → n ≤ m → m ≡ n
same_count m n a b = omega arith

-- all lines, where the next transaction has no reply
pub lines_up_to : (w : World) (text : List ℕ) (n : ℕ) → unfinished w ≡ [] → n ≤ length w.transactions
    → text ≡ flat_map (number_line w) (range_with_len 1 n) → reply_at (n + 1) w ≡ None → text ≡ replies_of w
lines_up_to w text n ended within so_far none =
    so_far ∙ ap (λ (k : ℕ). flat_map (number_line w) (range_with_len 1 k))
    (same_count n (length w.transactions) within (unreplied_beyond w n ended none))

-- or where there are as many as events
pub lines_of_all : (d : Design) (w : World) (text : List ℕ) (n : ℕ) → IsGood d w → length w.events ≤ n → n ≤ length w.transactions
    → text ≡ flat_map (number_line w) (range_with_len 1 n) → text ≡ replies_of w
lines_of_all d w text n good events within so_far =
    let counted = good.steady.counted in
    so_far ∙ ap (λ (k : ℕ). flat_map (number_line w) (range_with_len 1 k))
    (same_count n (length w.transactions) within (omega (arith, counted, events)))
