-- How a path is written: the names of the instances and generate scopes from the top, with a point between each two
-- (IEEE 1364-2005, 12.5 and 17.1.1.6). This project's own: how a turn of a loop and a block without a label are written.
use Rattle.std.specs.Prelude.{List, [], ◌∷◌, ◌++◌, map, ℤ, Some, None, decimal, codes}
use Rattle.netlist.specs.Message.{signed_text}
use Rattle.design_names.specs.Path.{dotted}
use Rattle.vl_value.specs.Paths.{Text, Path, Step, named, turn, unnamed}
use Rattle.vl_design.specs.Scopes.{Scope, Origin, instance_of, block}
use Rattle.vl_design.specs.Design.{Design}

abbrev pub in_brackets : ℤ → Text
in_brackets z = codes "[" ++ (signed_text z ++ codes "]")

-- a name, g[3], genblk1, genblk1[3]
abbrev pub step_text : Step → Text
step_text (named x) = x
step_text (turn x z) = x ++ in_brackets z
step_text (unnamed n None) = codes "genblk" ++ decimal n
step_text (unnamed n (Some z)) = codes "genblk" ++ (decimal n ++ in_brackets z)

-- the name of the module of an instance
abbrev pub module_name : Origin → Text
module_name (instance_of m j) = m.name.text
module_name block = []

-- the top's name, which is that of its module
abbrev pub top_name : List Scope → Text
top_name [] = []
top_name (s ∷ ss) = module_name s.origin

-- the text of a path below the top, in a report and for `%m`
abbrev pub path_text : Design → Path → Text
path_text d p = dotted (top_name d.scopes ∷ map step_text p)
