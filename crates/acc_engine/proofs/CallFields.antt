-- The numbers of a call that fits its type fit their fields in a journal.
use Rattle.std.proofs.Common.{◌≡◌, ℕ, ◌<◌, ◌≤◌, ◌^◌, List, length, get_or, true, Option, Some, None, refl, ℤ, arith}
use Rattle.std.specs.Prelude.{◌==◌, ◌&&◌, nat_le, slice_get, All, IfSome, unsigned_abs, FitsSigned}
use Rattle.std.specs.List.{list_all}
use Rattle.std.specs.Int.{w64}
use Rattle.std.specs.Cmp.{first_so, second_so}
use Rattle.std.proofs.lemmas.Bool.Decides.{nat_tests}
use Rattle.std.proofs.lemmas.Int.{fits_signed_from_abs}
use Rattle.acc_base.specs.Numbers.{is_small}
use Rattle.acc_base.specs.declared.bounds.TheConstants.{LONGEST_TAPE}
use Rattle.acc_base.specs.declared.designs.Design.{Design}
use Rattle.acc_base.specs.declared.designs.TxType.{TxType}
use Rattle.acc_base.specs.declared.machines.Call.{Call}
use Rattle.acc_base.specs.declared.machines.Event.TheVariants.{Begin}
use Rattle.acc_base.specs.Machine.{call_fits, ask_fits}
use Rattle.acc_base.proofs.Smalls.{all_small}
use Rattle.acc_formed.specs.WellFormed.{IsWellFormed, IsTypeFormed}
use Rattle.acc_lift.proofs.FormRules.{numbered_at}
use Rattle.acc_lift.proofs.Transactions.{got_within}
use Rattle.acc_wal.specs.Spellings.{CallFits, Fits}
use Rattle.acc_engine.specs.Keeping.{CallsFit}

fields : (xs : List ℤ) → list_all is_small xs ≡ true → All (FitsSigned w64) xs
fields xs h i x within =
    let s : unsigned_abs (get_or xs i x) ≤ 2 ^ 45 = all_small xs h i x within in fits_signed_from_abs w64 (get_or xs i x) (omega arith)

asked : (ask : Option ℕ) → ask_fits ask ≡ true → IfSome ask (λ n. n < 0xffffffff)
asked None h = tt
asked (Some n) h = let le : n ≤ 65536 = grind (arith, nat_tests) in omega arith

fit_by : (d : Design) (call : Call) (x : Option TxType) → IsWellFormed d → slice_get d.types call.ty ≡ x → call_fits x call ≡ true →
    CallFits call
fit_by d call None formed at h = absurd cc
fit_by d call (Some x) formed at h =
    let count = length call.params == x.params in
    let params = list_all is_small call.params in
    let tape = list_all is_small call.tape in
    let short = nat_le (length call.tape) LONGEST_TAPE in
    let a = first_so (count && params && tape && short) (ask_fits call.ask) h in
    let b = first_so (count && params && tape) short a in
    let e = first_so (count && params) tape b in
    let is_count : count ≡ true = first_so count params e in
    let is_short : short ≡ true = second_so (count && params && tape) short a in
    let t : IsTypeFormed d.tables d.types call.ty x = numbered_at (IsTypeFormed d.tables d.types) d.types call.ty x formed.types at in
    let within = got_within d.types call.ty x at in
    let types = formed.few_types in
    let many = t.few_params in
    let long : length call.params ≡ x.params = grind (arith, nat_tests) in
    let few : length call.tape ≤ 4096 = grind (arith, nat_tests) in
    record {
      ty = omega arith;
      params = omega arith;
      each_param = fields call.params (second_so count params e);
      tape = omega arith;
      each_tape = fields call.tape (second_so (count && params) tape b);
      ask = asked call.ask (second_so (count && params && tape && short) (ask_fits call.ask) h);
    }

pub call_fields : (d : Design) (call : Call) → IsWellFormed d → call_fits (slice_get d.types call.ty) call ≡ true → CallFits call
call_fields d call formed h = fit_by d call (slice_get d.types call.ty) formed refl h

pub all_fields : (d : Design) (calls : List Call) → IsWellFormed d → CallsFit d calls → All (λ (call : Call). Fits (Begin call)) calls
unfolding Fits
all_fields d calls formed fits i x within = call_fields d (get_or calls i x) formed (fits i x within)
