-- What a builder that began empty has at the end.
use Rattle.std.proofs.Common.{◌≡◌, [], false, Some, None, sym, ap, ◌∙◌}
use Rattle.std.specs.Prelude.{Err, IfOk, Ok, OnOk, Result, option_map}
use Rattle.serde_json.specs.Data.{Data}
use Rattle.serde_json.specs.View.{view}
use Rattle.serde_json.specs.declared.value.Value.{Value}
use Rattle.wesl_json_print_nodes.specs.Events.{events}
use Rattle.wesl_json_print_nodes.specs.Printing.{Prints}
use Rattle.wesl_json_print_nodes.specs.declared.printer.Printer.{Printer}
use Rattle.wesl_json_light.specs.Order.{sorted}
use Rattle.wesl_json_write.specs.Building.{run}
use Rattle.wesl_json_write.specs.Holds.{Builds, state_of}
use Rattle.wesl_json_write.specs.declared.values.ValueSink.{ValueSink}
use Rattle.wesl_json_write.proofs.Built.{built}

some_is : {A : Type 0} (x y : A) → Some x ≡ Some y → x ≡ y
some_is x y h = cc h

pub value_built : {old new : ValueSink} {value : Value} (d : Data) → state_of old ≡ ([], None) → Builds (events d) old new → new.is_refused ≡ false → new.done ≡ Some value → view value ≡ sorted d
value_built {old} {new} {value} d empty h kept there =
    let same : Some ([], Some (sorted d)) ≡ Some (state_of new) = sym (ap (run (events d)) empty ∙ built d ([], None)) ∙ h.built kept in
    let states : ([], Some (sorted d)) ≡ state_of new = some_is _ _ same in
    let done : Some (sorted d) ≡ option_map view new.done = ap (λ s. s.1) states in
    sym (some_is _ _ (done ∙ ap (option_map view) there))

-- what a printer's sink has built, where the value is one whose members are in order
pub unit_built : {E : Type 0} {old new : Printer ValueSink} (r : Result Value E) (d : Data) (s : ValueSink) → sorted d ≡ d → state_of old.sink ≡ ([], None) → Prints Builds old new d → s ≡ new.sink → IfOk r (λ v. s.done ≡ Some v) → OnOk r (s.is_refused ≡ false) → IfOk r (λ v. view v ≡ d)
unit_built (Ok v) d s law empty h same given noted = value_built d empty h.told (ap (λ t. t.is_refused) (sym same) ∙ noted) (ap (λ t. t.done) (sym same) ∙ given) ∙ law
unit_built (Err e) d s law empty h same given noted = tt
