-- The commands of `tpcc` and `booking`: the designs that the program brings along, in their one printed spelling; and scripts of the
-- calls of TPC-C.
use Rattle.std.specs.Prelude.{ℕ, List, [], if◌then◌else◌}
use Rattle.acc_commands_inputs.specs.Scales.{is_scale, is_mix}
use Rattle.acc_commands_inputs.specs.declared.scales.AskedScale.{AskedScale}
use Rattle.acc_commands_inputs.specs.declared.scales.Mix.{Mix}
use Rattle.acc_commands_inputs.specs.Texts.{IsDesignText}
use Rattle.acc_print.specs.Designs.{printed}
use Rattle.acc_journalled.specs.declared.answers.Ending.TheVariants.{Done}
use Rattle.acc_commands_inputs.specs.Text.{Said, Says}
use Rattle.tpcc_gen.specs.Loads.{load_text}
use Rattle.tpcc_gen.specs.Mixes.{mix_text}
use Rattle.tpcc_steps.specs.ShippedText.{shipped_design}
use Rattle.acc_booking.specs.BookingText.{booking_design}

-- the printed spelling is said, which is a text of the same design
pub record PrintsShipped (said : Said) : Type 0 where
  pub says : Says Done (printed shipped_design) said
  pub same : IsDesignText (printed shipped_design) shipped_design

-- the same of the booking design
pub record PrintsBooking (said : Said) : Type 0 where
  pub says : Says Done (printed booking_design) said
  pub same : IsDesignText (printed booking_design) booking_design

-- the script of the load, where there may be such a one, and else nothing
abbrev pub load_said : AskedScale → List ℕ
load_said s = if is_scale s then load_text s.warehouses s.items s.customers else []

abbrev pub PrintsLoad : AskedScale → Said → Type 0
PrintsLoad s = Says Done (load_said s)

-- the script of the mix, likewise
abbrev pub mix_said : Mix → List ℕ
mix_said m = if is_mix m then mix_text m.scale.warehouses m.scale.items m.scale.customers m.count m.start else []

abbrev pub PrintsMix : Mix → Said → Type 0
PrintsMix m = Says Done (mix_said m)
