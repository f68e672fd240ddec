use Rattle.std.proofs.Common.{◌≡◌, ◌++◌, ◌∷◌, [], refl, ap, ◌∙◌, rules, arith}
use Rattle.dessert.specs.Outside.{FilesAt, files_at}
use Rattle.talk.specs.Plain.{named}
use Rattle.dessert.proofs.LoadLaws.{none_yet, one_more, all_loaded, front_loaded, failed_since, long_since, named_at, named_length}
use Rattle.dessert.proofs.sources.load_sources.Goals as goal

pub loop-name-init : goal.loop-name-init
loop-name-init g c = record {
  front = rw (c.new-text.ensures.items, c.new-counts.ensures.items) (none_yet (files_at g.F.Files c.args.files.now) (named c.args.names.now));
  same = refl;
}

pub load_one-requires : goal.load_one-requires
load_one-requires g c = record { room = omega (arith, c.loop-name.invariant.front.short, c.loop-name-test.true, c.requires.few) }

pub returns-in-Err-Failed-clause-fault : goal.returns-in-Err-Failed-clause-fault
returns-in-Err-Failed-clause-fault g c =
    let n = named_length c.args.names.now in (
      front_loaded (files_at g.F.Files c.args.files.now) (named c.args.names.now) c.loop-name.name-index _ _ _ (omega (arith, n, c.loop-name-test.true)) (named_at c.args.names.now c.loop-name.name-index _ refl) c.loop-name.invariant.front,
      failed_since _ (files_at g.F.Files c.loop-name.files) (files_at g.F.Files c.load_one.new.files) _ c.loop-name.invariant.same (rw c.in-Err-Failed.field-0-is at c.in-Err-Failed.ensures.loads),
    )

pub returns-in-Err-TooLong-clause-fault : goal.returns-in-Err-TooLong-clause-fault
returns-in-Err-TooLong-clause-fault g c =
    let n = named_length c.args.names.now in (
      front_loaded (files_at g.F.Files c.args.files.now) (named c.args.names.now) c.loop-name.name-index _ _ _ (omega (arith, n, c.loop-name-test.true)) (named_at c.args.names.now c.loop-name.name-index _ refl) c.loop-name.invariant.front,
      long_since _ (files_at g.F.Files c.loop-name.files) (files_at g.F.Files c.load_one.new.files) _ c.loop-name.invariant.same (rw c.in-Err-TooLong.field-0-is at c.in-Err-TooLong.ensures.loads),
    )

pub returns-in-Err-Memory-clause-fault : goal.returns-in-Err-Memory-clause-fault
returns-in-Err-Memory-clause-fault g c =
    (rw c.in-Err-Memory.field-0-is at c.in-Err-Memory.ensures.loads) ∙ ap (λ (x : FilesAt). x.faults) c.loop-name.invariant.same

pub loop-name-preserved : goal.loop-name-preserved
loop-name-preserved g c =
    let n = named_length c.args.names.now in
    let l = rw c.in-Ok.count-is at c.in-Ok.ensures.loads in
    let t : c.push.new.self.items ≡ c.loop-name.counts.items ++ c.in-Ok.count ∷ [] = search rules in
    record {
      front = rw t (one_more (files_at g.F.Files c.args.files.now) (named c.args.names.now) c.loop-name.name-index _ _ _ _ (files_at g.F.Files c.loop-name.files) (files_at g.F.Files c.load_one.new.files) _ c.loop-name.invariant.same (omega (arith, n, c.loop-name-test.true)) (named_at c.args.names.now c.loop-name.name-index _ refl) c.loop-name.invariant.front l);
      same = c.in-Ok.ensures.same ∙ c.loop-name.invariant.same;
    }

pub returns-clause-loaded : goal.returns-clause-loaded
returns-clause-loaded g c =
    let n = named_length c.args.names.now in
    all_loaded (files_at g.F.Files c.args.files.now) (named c.args.names.now) c.loop-name.name-index c.loop-name.text.items c.loop-name.counts.items (omega (arith, n, c.loop-name-test.false, c.loop-name.auto.name-index-end)) c.loop-name.invariant.front
