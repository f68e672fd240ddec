use Rattle.std.proofs.Common.{map, ap, ◌∙◌}
use Rattle.vl_objects.specs.Plain.{plain_object}
use Rattle.std.specs.Prelude.{filter}
use Rattle.vl_top_clocks.specs.Data.{is_data}
use Rattle.vl_top_clocks.proofs.Counting.{if_ok, of_first}
use Rattle.vl_top_clocks.proofs.inputs.data_inputs.Goals as goal

pub returns-in_ok-own-in-Some : goal.returns-in_ok-own-in-Some
returns-in_ok-own-in-Some c =
    let item = c.in-Some.ensures.item in let m = c.number-path.result in
    if_ok c.data_of.result
    (λ os e h. of_first c.args.numbers.now c.args.loops.now c.args.clocks.now c.args.scopes.now c.in-Some.top.now c.as_slice.result.now m
    (map plain_object c.in_ok-own-in-Some.own.items) (map plain_object os.items) item.3.0 item.1 c.as_slice.ensures.value c.number-path.ensures
    c.in_ok-own-in-Some.ensures
    (e ∙ ap (λ xs. filter (is_data c.args.clocks.now m) (map plain_object xs)) c.as_slice-in-Some.ensures.value) h)
    c.data_of.ensures
