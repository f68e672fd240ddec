use Rattle.std.proofs.Common.{◌≡◌, ◌+◌, ◌-◌, ◌<◌, length, drop, map, arith, subst}
use Rattle.vl_objects.specs.Plain.{plain_object}
use Rattle.vl_sight.specs.Firsts.{Finds, has_name}
use Rattle.vl_sight.proofs.Finding.{finds_next}
use Rattle.vl_sight.proofs.first.object_numbers.Goals as goal

pub loop-k-preserved : goal.loop-k-preserved
loop-k-preserved c =
    let all = c.args.all.now in let j = c.loop-k.k - 1 in
    let up : j + 1 ≡ c.loop-k.k = omega arith in
    let below : j < length all = omega arith in
    finds_next plain_object has_name all j c.loop-k.k c.index-all-k.result c.loop-k.numbers c.note.new.numbers
    up below c.index-all-k.is c.in_ok-note.ensures c.loop-k.invariant

pub returns : goal.returns
returns c =
    let none : c.loop-k.k ≡ 0 = omega arith in
    let all = c.args.all.now in
    subst (λ i. Finds has_name (map plain_object all) (map plain_object (drop i all)) c.loop-k.numbers) none c.loop-k.invariant
