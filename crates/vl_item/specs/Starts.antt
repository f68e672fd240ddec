-- What an item that holds no other items begins with (IEEE 1364-2005, A.1.4, cut down).
use Rattle.std.specs.Prelude.{Option, Some, None}
use Rattle.vl_tree.specs.declared.token.Key.{Key}
use Rattle.vl_tree.specs.declared.token.Key.TheVariants as w
use Rattle.vl_tree.specs.Token.{Kind}
use Rattle.vl_tree.specs.Token as k
use Rattle.vl_tree.specs.Syntax.{Item, parameter, directed, nets, registers, integer, genvar, continuous, always}
use Rattle.vl_tree.specs.Syntax.{initial, function, instances, region, generate_loop, generate_if}
use Rattle.vl_item.specs.declared.start.Start.{Start}
use Rattle.vl_item.specs.declared.start.Start.TheVariants as start

-- the sort of item that this keyword begins
abbrev pub key_begins : Key → Option Start
key_begins w.Parameter = Some start.Declaration
key_begins w.Localparam = Some start.Declaration
key_begins w.Input = Some start.Declaration
key_begins w.Output = Some start.Declaration
key_begins w.Wire = Some start.Declaration
key_begins w.Reg = Some start.Declaration
key_begins w.Integer = Some start.Declaration
key_begins w.Genvar = Some start.Declaration
key_begins w.Assign = Some start.Declaration
key_begins w.Always = Some start.Always
key_begins w.Initial = Some start.Initial
key_begins w.Function = Some start.Function
key_begins a = None

-- the sort of item that a token of this kind begins
abbrev pub begins : Kind → Option Start
begins (k.name n) = Some start.Instances
begins (k.key a) = key_begins a
begins (k.mark a) = None
begins (k.number l) = None
begins (k.system s) = None
begins (k.str s) = None

-- the sort of an item
abbrev pub sort : Item → Option Start
sort (parameter p l s r vs) = Some start.Declaration
sort (directed d ns) = Some start.Declaration
sort (nets p s r ns) = Some start.Declaration
sort (registers p s r vs) = Some start.Declaration
sort (integer p vs) = Some start.Declaration
sort (genvar p ns) = Some start.Declaration
sort (continuous p ds) = Some start.Declaration
sort (always p e b) = Some start.Always
sort (initial p b) = Some start.Initial
sort (function f) = Some start.Function
sort (instances n b is) = Some start.Instances
sort (region p is) = None
sort (generate_loop p l b) = None
sort (generate_if bs o) = None
