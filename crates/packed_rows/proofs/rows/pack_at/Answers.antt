use Rattle.std.proofs.Common.{◌+◌, ◌-◌, arith, rules}
use Rattle.std.proofs.lemmas.Slice.{drop-put_mid}
use Rattle.packed_rows.proofs.rows.pack_at.Goals as goal

pub returns-clause-after : goal.returns-clause-after
returns-clause-after c =
    drop-put_mid c.args.from (c.args.from + c.args.each - c.args.from) c.args.words.now c.pack.new.words (c.args.from + c.args.each)
    (omega arith) (omega (arith, c.requires.within)) (search rules)
