use Rattle.flat_ir.proofs.PieceLaws.{counts_items, joins_texts}
use Rattle.flat_ir.proofs.format.format_law.Goals as goal

pub returns-clause-items : goal.returns-clause-items
returns-clause-items c = counts_items

pub returns-clause-text : goal.returns-clause-text
returns-clause-text c = joins_texts
