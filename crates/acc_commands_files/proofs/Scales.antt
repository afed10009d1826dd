-- Scales and mixes that are within their bounds.
use Rattle.std.proofs.Common.{◌≡◌, true, arith}
use Rattle.std.proofs.lemmas.Bool.Decides.{nat_tests}
use Rattle.tpcc_gen.specs.Bounds.{IsScale, IsMix}
use Rattle.acc_commands_inputs.specs.Scales.{is_scale, is_mix}
use Rattle.acc_commands_inputs.specs.declared.scales.AskedScale.{AskedScale}
use Rattle.acc_commands_inputs.specs.declared.scales.Mix.{Mix}

pub scale_fits : (s : AskedScale) → is_scale s ≡ true → IsScale s.warehouses s.items s.customers
scale_fits s fit = record {
  some_warehouse = grind (arith, nat_tests, fit);
  few_warehouses = grind (arith, nat_tests, fit);
  some_item = grind (arith, nat_tests, fit);
  few_items = grind (arith, nat_tests, fit);
  some_customer = grind (arith, nat_tests, fit);
  few_customers = grind (arith, nat_tests, fit);
}

pub mix_scale : (m : Mix) → is_mix m ≡ true → is_scale m.scale ≡ true
mix_scale m fit = grind (arith, nat_tests, fit)

pub mix_fits : (m : Mix) → is_mix m ≡ true → IsMix m.count m.start
mix_fits m fit = (grind (arith, nat_tests, fit), grind (arith, nat_tests, fit))
