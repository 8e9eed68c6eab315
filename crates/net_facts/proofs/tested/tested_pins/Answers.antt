use Rattle.std.proofs.Common.{◌≡◌, List, None, cond, ◌++◌, ◌∷◌, [], map, arith, sym, ◌∙◌, ap}
use Rattle.std.specs.Prelude.{filter_map}
use Rattle.std.specs.List.{range_with_len, cons_option}
use Rattle.std.proofs.lemmas.List.FromFn.{map-range_with_len_more}
use Rattle.net_facts.specs.declared.classes.PinClass.{PinClass}
use Rattle.net_facts.specs.declared.facts.PinFacts.{PinFacts}
use Rattle.net_facts.specs.Cells.{table}
use Rattle.net_facts.specs.inner.Answers.{drive_of, pin_class_in, tested_drive_in}
use Rattle.net_facts.proofs.Lists.{filter_map_more}
use Rattle.net_facts.proofs.tested.tested_pins.Goals as goal

pub loop-place-preserved : goal.loop-place-preserved
loop-place-preserved c =
    let f = pin_class_in (table c.args.rows.now) c.args.net.now in
    let g = tested_drive_in (table c.args.rows.now) c.args.net.now in
    let k = c.loop-place.place in
    let drive : c.tested_drive-drive.result ≡ g k =
    c.tested_drive-drive.ensures
    ∙ ap (λ (class : PinClass). cond class.driver_tested (drive_of c.as_slice-pins.result.now k) None) c.pin_class-class.ensures
    ∙ ap (λ (pins : List PinFacts). cond (f k).driver_tested (drive_of pins k) None) c.as_slice-pins.ensures in (
      c.in_ok-push.ensures ∙ ap (λ xs. xs ++ c.pin_class-class.result ∷ []) c.loop-place.invariant.0
          ∙ ap (λ x. map f (range_with_len 0 k) ++ x ∷ []) c.pin_class-class.ensures
          ∙ sym (map-range_with_len_more f 0 k k (omega arith)),
      c.in_ok-push_some.ensures
          ∙ ap (λ xs. xs ++ cons_option c.tested_drive-drive.result []) c.loop-place.invariant.1
          ∙ ap (λ o. filter_map g (range_with_len 0 k) ++ cons_option o []) drive
          ∙ sym (filter_map_more g k),
    )
