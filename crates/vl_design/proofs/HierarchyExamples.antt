-- Worked examples of phase 4: each kind of fault, where it stands, and what is none.
use Rattle.std.specs.Prelude.{◌≡◌, refl, true, false, [], ◌∷◌, Some, None, codes}
use Rattle.bit_ops.specs.declared.operator.Unary.TheVariants as u
use Rattle.bit_ops.specs.declared.operator.Binary.TheVariants as b
use Rattle.vl_tree.specs.declared.fault.FaultKind.TheVariants as k
use Rattle.vl_tree.specs.Syntax as t
use Rattle.vl_tree.specs.Syntax.{Source}
use Rattle.vl_design.specs.Limits.{limits}
use Rattle.vl_design.proofs.Build.{p, x, lit, rg, dr, vl, lo, nb, nt, dv, fn, ins, md, few, deep_few, fault_in, fault_asked}

-- ---- the top

-- module a;
-- endmodule
-- module a;
-- endmodule
abbrev second_module_text : Source
second_module_text =
    ((md (p 0 1) (x (codes "a") 1 1) ([]) None t.no_item) ∷ (md (p 4 3) (x (codes "a") 5 3) ([]) None t.no_item) ∷
    [])

second_module : fault_in limits second_module_text ≡ Some (4, (Some 5, k.DuplicateModule))
second_module = refl

-- module a;
-- endmodule
-- module b;
-- endmodule
abbrev two_roots_text : Source
two_roots_text =
    ((md (p 0 1) (x (codes "a") 1 1) ([]) None t.no_item) ∷ (md (p 4 3) (x (codes "b") 5 3) ([]) None t.no_item) ∷
    [])

two_roots : fault_in limits two_roots_text ≡ Some (4, (Some 0, k.NoTop))
two_roots = refl

--
abbrev no_module_text : Source
no_module_text =
    ([])

no_module : fault_in limits no_module_text ≡ Some (4, (Some 0, k.NoTop))
no_module = refl

-- module a;
--   b x();
-- endmodule
-- module b;
--   a x();
-- endmodule
abbrev no_root_text : Source
no_root_text =
    ((md (p 0 1) (x (codes "a") 1 1) ([]) None (t.more_item (t.instances (x (codes "b") 3 2) None ((ins (x (codes
    "x") 4 2) None) ∷ [])) t.no_item)) ∷ (md (p 9 4) (x (codes "b") 10 4) ([]) None (t.more_item (t.instances (x
    (codes "a") 12 5) None ((ins (x (codes "x") 13 5) None) ∷ [])) t.no_item)) ∷ [])

no_root : fault_in limits no_root_text ≡ Some (4, (Some 0, k.NoTop))
no_root = refl

-- module a;
-- endmodule
-- module b;
-- endmodule
abbrev asked_for_text : Source
asked_for_text =
    ((md (p 0 1) (x (codes "a") 1 1) ([]) None t.no_item) ∷ (md (p 4 3) (x (codes "b") 5 3) ([]) None t.no_item) ∷
    [])

asked_for : fault_asked (codes "b") asked_for_text ≡ None
asked_for = refl

-- module a;
-- endmodule
abbrev asked_in_vain_text : Source
asked_in_vain_text =
    ((md (p 0 1) (x (codes "a") 1 1) ([]) None t.no_item) ∷ [])

asked_in_vain : fault_asked (codes "b") asked_in_vain_text ≡ Some (4, (Some 0, k.NoTop))
asked_in_vain = refl

-- module a;
--   b x();
-- endmodule
-- module b;
-- endmodule
-- module b;
--   a x();
-- endmodule
abbrev a_second_module_counts_for_nothing_text : Source
a_second_module_counts_for_nothing_text =
    ((md (p 0 1) (x (codes "a") 1 1) ([]) None (t.more_item (t.instances (x (codes "b") 3 2) None ((ins (x (codes
    "x") 4 2) None) ∷ [])) t.no_item)) ∷ (md (p 9 4) (x (codes "b") 10 4) ([]) None t.no_item) ∷ (md (p 13 6) (x
    (codes "b") 14 6) ([]) None (t.more_item (t.instances (x (codes "a") 16 7) None ((ins (x (codes "x") 17 7) None)
    ∷ [])) t.no_item)) ∷ [])

a_second_module_counts_for_nothing : fault_in limits a_second_module_counts_for_nothing_text ≡ Some (4, (Some 14, k.DuplicateModule))
a_second_module_counts_for_nothing = refl

-- module a;
-- endmodule
-- module b;
--   if (0) a x();
-- endmodule
abbrev used_in_a_branch_text : Source
used_in_a_branch_text =
    ((md (p 0 1) (x (codes "a") 1 1) ([]) None t.no_item) ∷ (md (p 4 3) (x (codes "b") 5 3) ([]) None (t.more_item
    (t.generate_if (t.more_generate_branch (p 7 4) (t.number (p 9 4) (lit 32 false true 0 0)) (t.single (t.instances
    (x (codes "a") 11 4) None ((ins (x (codes "x") 12 4) None) ∷ []))) t.no_generate_branch) t.no_generate_else)
    t.no_item)) ∷ [])

used_in_a_branch : fault_in limits used_in_a_branch_text ≡ None
used_in_a_branch = refl

-- ---- instances and what is given to them

-- module m;
--   q x();
-- endmodule
abbrev unknown_module_text : Source
unknown_module_text =
    ((md (p 0 1) (x (codes "m") 1 1) ([]) None (t.more_item (t.instances (x (codes "q") 3 2) None ((ins (x (codes
    "x") 4 2) None) ∷ [])) t.no_item)) ∷ [])

unknown_module : fault_in limits unknown_module_text ≡ Some (4, (Some 3, k.UnknownModule))
unknown_module = refl

-- module c #(parameter P = 1);
-- endmodule
-- module m;
--   c #(.Z(1)) x();
-- endmodule
abbrev unknown_parameter_text : Source
unknown_parameter_text =
    ((md (p 0 1) (x (codes "c") 1 1) ((t.declared_parameter (p 4 1) false None (x (codes "P") 5 1) (t.number (p 7 1)
    (lit 32 false true 1 0))) ∷ []) None t.no_item) ∷ (md (p 11 3) (x (codes "m") 12 3) ([]) None (t.more_item
    (t.instances (x (codes "c") 14 4) (Some (Some (t.by_name ((nb (p 17 4) (x (codes "Z") 18 4) (Some (t.number (p 20
    4) (lit 32 false true 1 0)))) ∷ [])))) ((ins (x (codes "x") 23 4) None) ∷ [])) t.no_item)) ∷ [])

unknown_parameter : fault_in limits unknown_parameter_text ≡ Some (4, (Some 18, k.UnknownParameter))
unknown_parameter = refl

-- module c #(parameter P = 1);
-- endmodule
-- module m;
--   c #(1, 2) x();
-- endmodule
abbrev too_many_values_text : Source
too_many_values_text =
    ((md (p 0 1) (x (codes "c") 1 1) ((t.declared_parameter (p 4 1) false None (x (codes "P") 5 1) (t.number (p 7 1)
    (lit 32 false true 1 0))) ∷ []) None t.no_item) ∷ (md (p 11 3) (x (codes "m") 12 3) ([]) None (t.more_item
    (t.instances (x (codes "c") 14 4) (Some (Some (t.ordered (t.more_expr (t.number (p 17 4) (lit 32 false true 1 0))
    (t.more_expr (t.number (p 19 4) (lit 32 false true 2 0)) t.no_expr))))) ((ins (x (codes "x") 21 4) None) ∷ []))
    t.no_item)) ∷ [])

too_many_values : fault_in limits too_many_values_text ≡ Some (4, (Some 19, k.UnknownParameter))
too_many_values = refl

-- module c #(parameter P = 1);
-- endmodule
-- module m;
--   c #(.P(1), .P(2)) x();
-- endmodule
abbrev given_twice_text : Source
given_twice_text =
    ((md (p 0 1) (x (codes "c") 1 1) ((t.declared_parameter (p 4 1) false None (x (codes "P") 5 1) (t.number (p 7 1)
    (lit 32 false true 1 0))) ∷ []) None t.no_item) ∷ (md (p 11 3) (x (codes "m") 12 3) ([]) None (t.more_item
    (t.instances (x (codes "c") 14 4) (Some (Some (t.by_name ((nb (p 17 4) (x (codes "P") 18 4) (Some (t.number (p 20
    4) (lit 32 false true 1 0)))) ∷ (nb (p 23 4) (x (codes "P") 24 4) (Some (t.number (p 26 4) (lit 32 false true 2
    0)))) ∷ [])))) ((ins (x (codes "x") 29 4) None) ∷ [])) t.no_item)) ∷ [])

given_twice : fault_in limits given_twice_text ≡ Some (4, (Some 24, k.UnknownParameter))
given_twice = refl

-- module c;
--   localparam P = 1;
-- endmodule
-- module m;
--   c #(.P(1)) x();
-- endmodule
abbrev local_given_text : Source
local_given_text =
    ((md (p 0 1) (x (codes "c") 1 1) ([]) None (t.more_item (t.parameter (p 3 2) true false None ((vl (x (codes "P")
    4 2) (t.number (p 6 2) (lit 32 false true 1 0))) ∷ [])) t.no_item)) ∷ (md (p 9 4) (x (codes "m") 10 4) ([]) None
    (t.more_item (t.instances (x (codes "c") 12 5) (Some (Some (t.by_name ((nb (p 15 5) (x (codes "P") 16 5) (Some
    (t.number (p 18 5) (lit 32 false true 1 0)))) ∷ [])))) ((ins (x (codes "x") 21 5) None) ∷ [])) t.no_item)) ∷ [])

local_given : fault_in limits local_given_text ≡ Some (4, (Some 16, k.UnknownParameter))
local_given = refl

-- module c #(parameter P = 1);
--   parameter Q = P;
-- endmodule
-- module m;
--   c #(1, 2) x();
-- endmodule
abbrev item_given_text : Source
item_given_text =
    ((md (p 0 1) (x (codes "c") 1 1) ((t.declared_parameter (p 4 1) false None (x (codes "P") 5 1) (t.number (p 7 1)
    (lit 32 false true 1 0))) ∷ []) None (t.more_item (t.parameter (p 10 2) false false None ((vl (x (codes "Q") 11
    2) (t.read (x (codes "P") 13 2) t.no_select)) ∷ [])) t.no_item)) ∷ (md (p 16 4) (x (codes "m") 17 4) ([]) None
    (t.more_item (t.instances (x (codes "c") 19 5) (Some (Some (t.ordered (t.more_expr (t.number (p 22 5) (lit 32
    false true 1 0)) (t.more_expr (t.number (p 24 5) (lit 32 false true 2 0)) t.no_expr))))) ((ins (x (codes "x") 26
    5) None) ∷ [])) t.no_item)) ∷ [])

item_given : fault_in limits item_given_text ≡ None
item_given = refl

-- module c #(parameter P = 1);
-- endmodule
-- module m;
--   c #(.P()) x();
-- endmodule
abbrev nothing_given_text : Source
nothing_given_text =
    ((md (p 0 1) (x (codes "c") 1 1) ((t.declared_parameter (p 4 1) false None (x (codes "P") 5 1) (t.number (p 7 1)
    (lit 32 false true 1 0))) ∷ []) None t.no_item) ∷ (md (p 11 3) (x (codes "m") 12 3) ([]) None (t.more_item
    (t.instances (x (codes "c") 14 4) (Some (Some (t.by_name ((nb (p 17 4) (x (codes "P") 18 4) None) ∷ [])))) ((ins
    (x (codes "x") 22 4) None) ∷ [])) t.no_item)) ∷ [])

nothing_given : fault_in limits nothing_given_text ≡ None
nothing_given = refl

-- module c;
-- endmodule
-- module m;
--   wire w;
--   c #(.Z(w)) x();
-- endmodule
abbrev unknown_value_is_not_looked_at_text : Source
unknown_value_is_not_looked_at_text =
    ((md (p 0 1) (x (codes "c") 1 1) ([]) None t.no_item) ∷ (md (p 4 3) (x (codes "m") 5 3) ([]) None (t.more_item
    (t.nets (p 7 4) false None ((nt (x (codes "w") 8 4) None) ∷ [])) (t.more_item (t.instances (x (codes "c") 10 5)
    (Some (Some (t.by_name ((nb (p 13 5) (x (codes "Z") 14 5) (Some (t.read (x (codes "w") 16 5) t.no_select))) ∷
    [])))) ((ins (x (codes "x") 19 5) None) ∷ [])) t.no_item))) ∷ [])

unknown_value_is_not_looked_at : fault_in limits unknown_value_is_not_looked_at_text ≡ Some (4, (Some 14, k.UnknownParameter))
unknown_value_is_not_looked_at = refl

-- module c #(parameter P = 1);
-- endmodule
-- module m;
--   wire w;
--   c #(w) x();
-- endmodule
abbrev value_of_a_net_text : Source
value_of_a_net_text =
    ((md (p 0 1) (x (codes "c") 1 1) ((t.declared_parameter (p 4 1) false None (x (codes "P") 5 1) (t.number (p 7 1)
    (lit 32 false true 1 0))) ∷ []) None t.no_item) ∷ (md (p 11 3) (x (codes "m") 12 3) ([]) None (t.more_item
    (t.nets (p 14 4) false None ((nt (x (codes "w") 15 4) None) ∷ [])) (t.more_item (t.instances (x (codes "c") 17 5)
    (Some (Some (t.ordered (t.more_expr (t.read (x (codes "w") 20 5) t.no_select) t.no_expr)))) ((ins (x (codes "x")
    22 5) None) ∷ [])) t.no_item))) ∷ [])

value_of_a_net : fault_in limits value_of_a_net_text ≡ Some (4, (Some 20, k.NotConstant))
value_of_a_net = refl

-- ---- limits, here small ones: 3 instances, depth 2, 3 turns, 60 tokens

-- module a;
-- endmodule
-- module m;
--   a x();
-- endmodule
abbrev as_deep_as_may_be_text : Source
as_deep_as_may_be_text =
    ((md (p 0 1) (x (codes "a") 1 1) ([]) None t.no_item) ∷ (md (p 4 3) (x (codes "m") 5 3) ([]) None (t.more_item
    (t.instances (x (codes "a") 7 4) None ((ins (x (codes "x") 8 4) None) ∷ [])) t.no_item)) ∷ [])

as_deep_as_may_be : fault_in few as_deep_as_may_be_text ≡ None
as_deep_as_may_be = refl

-- module b;
-- endmodule
-- module a;
--   b x();
-- endmodule
-- module m;
--   a x();
-- endmodule
abbrev too_deep_text : Source
too_deep_text =
    ((md (p 0 1) (x (codes "b") 1 1) ([]) None t.no_item) ∷ (md (p 4 3) (x (codes "a") 5 3) ([]) None (t.more_item
    (t.instances (x (codes "b") 7 4) None ((ins (x (codes "x") 8 4) None) ∷ [])) t.no_item)) ∷ (md (p 13 6) (x (codes
    "m") 14 6) ([]) None (t.more_item (t.instances (x (codes "a") 16 7) None ((ins (x (codes "x") 17 7) None) ∷ []))
    t.no_item)) ∷ [])

too_deep : fault_in few too_deep_text ≡ Some (4, (Some 8, k.TooDeep))
too_deep = refl

-- module a;
-- endmodule
-- module m;
--   a x(), y();
-- endmodule
abbrev as_many_as_may_be_text : Source
as_many_as_may_be_text =
    ((md (p 0 1) (x (codes "a") 1 1) ([]) None t.no_item) ∷ (md (p 4 3) (x (codes "m") 5 3) ([]) None (t.more_item
    (t.instances (x (codes "a") 7 4) None ((ins (x (codes "x") 8 4) None) ∷ (ins (x (codes "y") 12 4) None) ∷ []))
    t.no_item)) ∷ [])

as_many_as_may_be : fault_in few as_many_as_may_be_text ≡ None
as_many_as_may_be = refl

-- module a;
-- endmodule
-- module m;
--   a x(), y(), z();
-- endmodule
abbrev too_many_instances_text : Source
too_many_instances_text =
    ((md (p 0 1) (x (codes "a") 1 1) ([]) None t.no_item) ∷ (md (p 4 3) (x (codes "m") 5 3) ([]) None (t.more_item
    (t.instances (x (codes "a") 7 4) None ((ins (x (codes "x") 8 4) None) ∷ (ins (x (codes "y") 12 4) None) ∷ (ins (x
    (codes "z") 16 4) None) ∷ [])) t.no_item)) ∷ [])

too_many_instances : fault_in few too_many_instances_text ≡ Some (4, (Some 16, k.TooManyInstances))
too_many_instances = refl

-- module b;
--   q z();
-- endmodule
-- module a;
-- endmodule
-- module m;
--   a x(), y(), z();
--   b w();
-- endmodule
abbrev nothing_behind_too_many_text : Source
nothing_behind_too_many_text =
    ((md (p 0 1) (x (codes "b") 1 1) ([]) None (t.more_item (t.instances (x (codes "q") 3 2) None ((ins (x (codes
    "z") 4 2) None) ∷ [])) t.no_item)) ∷ (md (p 9 4) (x (codes "a") 10 4) ([]) None t.no_item) ∷ (md (p 13 6) (x
    (codes "m") 14 6) ([]) None (t.more_item (t.instances (x (codes "a") 16 7) None ((ins (x (codes "x") 17 7) None)
    ∷ (ins (x (codes "y") 21 7) None) ∷ (ins (x (codes "z") 25 7) None) ∷ [])) (t.more_item (t.instances (x (codes
    "b") 29 8) None ((ins (x (codes "w") 30 8) None) ∷ [])) t.no_item))) ∷ [])

nothing_behind_too_many : fault_in few nothing_behind_too_many_text ≡ Some (4, (Some 25, k.TooManyInstances))
nothing_behind_too_many = refl

-- module m;
--   q a(), b(), c();
-- endmodule
abbrev unknown_ones_count_text : Source
unknown_ones_count_text =
    ((md (p 0 1) (x (codes "m") 1 1) ([]) None (t.more_item (t.instances (x (codes "q") 3 2) None ((ins (x (codes
    "a") 4 2) None) ∷ (ins (x (codes "b") 8 2) None) ∷ (ins (x (codes "c") 12 2) None) ∷ [])) t.no_item)) ∷ [])

unknown_ones_count : fault_in few unknown_ones_count_text ≡ Some (4, (Some 3, k.UnknownModule))
unknown_ones_count = refl

-- module a;
-- endmodule
-- module c;
--   a x(), y();
-- endmodule
-- module m;
--   q z();
--   c w();
-- endmodule
abbrev unknown_ones_are_too_many_text : Source
unknown_ones_are_too_many_text =
    ((md (p 0 1) (x (codes "a") 1 1) ([]) None t.no_item) ∷ (md (p 4 3) (x (codes "c") 5 3) ([]) None (t.more_item
    (t.instances (x (codes "a") 7 4) None ((ins (x (codes "x") 8 4) None) ∷ (ins (x (codes "y") 12 4) None) ∷ []))
    t.no_item)) ∷ (md (p 17 6) (x (codes "m") 18 6) ([]) None (t.more_item (t.instances (x (codes "q") 20 7) None
    ((ins (x (codes "z") 21 7) None) ∷ [])) (t.more_item (t.instances (x (codes "c") 25 8) None ((ins (x (codes "w")
    26 8) None) ∷ [])) t.no_item))) ∷ [])

unknown_ones_are_too_many : fault_in deep_few unknown_ones_are_too_many_text ≡ Some (4, (Some 8, k.TooManyInstances))
unknown_ones_are_too_many = refl

-- module m;
--   genvar i;
--   for (i = 0; i < 3; i = i + 1) begin end
-- endmodule
abbrev as_many_turns_as_may_be_text : Source
as_many_turns_as_may_be_text =
    ((md (p 0 1) (x (codes "m") 1 1) ([]) None (t.more_item (t.genvar (p 3 2) ((x (codes "i") 4 2) ∷ []))
    (t.more_item (t.generate_loop (p 6 3) (lo (x (codes "i") 8 3) (t.number (p 10 3) (lit 32 false true 0 0))
    (t.chain (t.read (x (codes "i") 12 3) t.no_select) (t.more_link b.Lt (p 13 3) (t.number (p 14 3) (lit 32 false
    true 3 0)) t.no_link)) (x (codes "i") 16 3) (t.chain (t.read (x (codes "i") 18 3) t.no_select) (t.more_link b.Add
    (p 19 3) (t.number (p 20 3) (lit 32 false true 1 0)) t.no_link))) (t.several (p 22 3) None t.no_item))
    t.no_item))) ∷ [])

as_many_turns_as_may_be : fault_in few as_many_turns_as_may_be_text ≡ None
as_many_turns_as_may_be = refl

-- module m;
--   genvar i;
--   for (i = 0; i < 4; i = i + 1) begin end
-- endmodule
abbrev too_many_turns_text : Source
too_many_turns_text =
    ((md (p 0 1) (x (codes "m") 1 1) ([]) None (t.more_item (t.genvar (p 3 2) ((x (codes "i") 4 2) ∷ []))
    (t.more_item (t.generate_loop (p 6 3) (lo (x (codes "i") 8 3) (t.number (p 10 3) (lit 32 false true 0 0))
    (t.chain (t.read (x (codes "i") 12 3) t.no_select) (t.more_link b.Lt (p 13 3) (t.number (p 14 3) (lit 32 false
    true 4 0)) t.no_link)) (x (codes "i") 16 3) (t.chain (t.read (x (codes "i") 18 3) t.no_select) (t.more_link b.Add
    (p 19 3) (t.number (p 20 3) (lit 32 false true 1 0)) t.no_link))) (t.several (p 22 3) None t.no_item))
    t.no_item))) ∷ [])

too_many_turns : fault_in few too_many_turns_text ≡ Some (4, (Some 6, k.TooManyTurns))
too_many_turns = refl

-- module m;
--   genvar i;
--   for (i = 0; i < 3; i = i + 1) begin
--     wire [7:0] a, b, c;
--     assign a = b + c;
--   end
-- endmodule
abbrev expanded_text : Source
expanded_text =
    ((md (p 0 1) (x (codes "m") 1 1) ([]) None (t.more_item (t.genvar (p 3 2) ((x (codes "i") 4 2) ∷ []))
    (t.more_item (t.generate_loop (p 6 3) (lo (x (codes "i") 8 3) (t.number (p 10 3) (lit 32 false true 0 0))
    (t.chain (t.read (x (codes "i") 12 3) t.no_select) (t.more_link b.Lt (p 13 3) (t.number (p 14 3) (lit 32 false
    true 3 0)) t.no_link)) (x (codes "i") 16 3) (t.chain (t.read (x (codes "i") 18 3) t.no_select) (t.more_link b.Add
    (p 19 3) (t.number (p 20 3) (lit 32 false true 1 0)) t.no_link))) (t.several (p 22 3) None (t.more_item (t.nets
    (p 23 4) false (Some (rg (p 24 4) (t.number (p 25 4) (lit 32 false true 7 0)) (t.number (p 27 4) (lit 32 false
    true 0 0)))) ((nt (x (codes "a") 29 4) None) ∷ (nt (x (codes "b") 31 4) None) ∷ (nt (x (codes "c") 33 4) None) ∷
    [])) (t.more_item (t.continuous (p 35 5) ((dv (t.name (x (codes "a") 36 5) t.no_select) (p 37 5) (t.chain (t.read
    (x (codes "b") 38 5) t.no_select) (t.more_link b.Add (p 39 5) (t.read (x (codes "c") 40 5) t.no_select)
    t.no_link))) ∷ [])) t.no_item)))) t.no_item))) ∷ [])

expanded : fault_in few expanded_text ≡ Some (4, (Some 1, k.Expanded))
expanded = refl

-- module m;
--   genvar i;
--   for (i = 0; i < 2; i = i + 1) begin
--     wire [7:0] a, b;
--     assign a = b;
--   end
-- endmodule
abbrev expanded_as_far_as_may_be_text : Source
expanded_as_far_as_may_be_text =
    ((md (p 0 1) (x (codes "m") 1 1) ([]) None (t.more_item (t.genvar (p 3 2) ((x (codes "i") 4 2) ∷ []))
    (t.more_item (t.generate_loop (p 6 3) (lo (x (codes "i") 8 3) (t.number (p 10 3) (lit 32 false true 0 0))
    (t.chain (t.read (x (codes "i") 12 3) t.no_select) (t.more_link b.Lt (p 13 3) (t.number (p 14 3) (lit 32 false
    true 2 0)) t.no_link)) (x (codes "i") 16 3) (t.chain (t.read (x (codes "i") 18 3) t.no_select) (t.more_link b.Add
    (p 19 3) (t.number (p 20 3) (lit 32 false true 1 0)) t.no_link))) (t.several (p 22 3) None (t.more_item (t.nets
    (p 23 4) false (Some (rg (p 24 4) (t.number (p 25 4) (lit 32 false true 7 0)) (t.number (p 27 4) (lit 32 false
    true 0 0)))) ((nt (x (codes "a") 29 4) None) ∷ (nt (x (codes "b") 31 4) None) ∷ [])) (t.more_item (t.continuous
    (p 33 5) ((dv (t.name (x (codes "a") 34 5) t.no_select) (p 35 5) (t.read (x (codes "b") 36 5) t.no_select)) ∷
    [])) t.no_item)))) t.no_item))) ∷ [])

expanded_as_far_as_may_be : fault_in few expanded_as_far_as_may_be_text ≡ None
expanded_as_far_as_may_be = refl

-- ---- what stands in no block, and loops of no genvar

-- module m;
--   if (1) begin
--     input a;
--   end
-- endmodule
abbrev input_in_a_block_text : Source
input_in_a_block_text =
    ((md (p 0 1) (x (codes "m") 1 1) ([]) None (t.more_item (t.generate_if (t.more_generate_branch (p 3 2) (t.number
    (p 5 2) (lit 32 false true 1 0)) (t.several (p 7 2) None (t.more_item (t.directed (dr (p 8 3) t.input None false
    None) ((x (codes "a") 9 3) ∷ [])) t.no_item)) t.no_generate_branch) t.no_generate_else) t.no_item)) ∷ [])

input_in_a_block : fault_in limits input_in_a_block_text ≡ Some (4, (Some 8, k.Misplaced))
input_in_a_block = refl

-- module m;
--   if (1) begin
--     parameter P = 1;
--   end
-- endmodule
abbrev parameter_in_a_block_text : Source
parameter_in_a_block_text =
    ((md (p 0 1) (x (codes "m") 1 1) ([]) None (t.more_item (t.generate_if (t.more_generate_branch (p 3 2) (t.number
    (p 5 2) (lit 32 false true 1 0)) (t.several (p 7 2) None (t.more_item (t.parameter (p 8 3) false false None ((vl
    (x (codes "P") 9 3) (t.number (p 11 3) (lit 32 false true 1 0))) ∷ [])) t.no_item)) t.no_generate_branch)
    t.no_generate_else) t.no_item)) ∷ [])

parameter_in_a_block : fault_in limits parameter_in_a_block_text ≡ Some (4, (Some 8, k.Misplaced))
parameter_in_a_block = refl

-- module m;
--   if (1) begin
--     localparam P = 1;
--   end
-- endmodule
abbrev localparam_in_a_block_text : Source
localparam_in_a_block_text =
    ((md (p 0 1) (x (codes "m") 1 1) ([]) None (t.more_item (t.generate_if (t.more_generate_branch (p 3 2) (t.number
    (p 5 2) (lit 32 false true 1 0)) (t.several (p 7 2) None (t.more_item (t.parameter (p 8 3) true false None ((vl
    (x (codes "P") 9 3) (t.number (p 11 3) (lit 32 false true 1 0))) ∷ [])) t.no_item)) t.no_generate_branch)
    t.no_generate_else) t.no_item)) ∷ [])

localparam_in_a_block : fault_in limits localparam_in_a_block_text ≡ None
localparam_in_a_block = refl

-- module m;
--   generate
--     parameter P = 1;
--   endgenerate
-- endmodule
abbrev parameter_in_a_region_text : Source
parameter_in_a_region_text =
    ((md (p 0 1) (x (codes "m") 1 1) ([]) None (t.more_item (t.region (p 3 2) (t.more_item (t.parameter (p 4 3) false
    false None ((vl (x (codes "P") 5 3) (t.number (p 7 3) (lit 32 false true 1 0))) ∷ [])) t.no_item)) t.no_item)) ∷
    [])

parameter_in_a_region : fault_in limits parameter_in_a_region_text ≡ None
parameter_in_a_region = refl

-- module m;
--   if (0) begin
--     input a;
--   end
-- endmodule
abbrev not_taken_text : Source
not_taken_text =
    ((md (p 0 1) (x (codes "m") 1 1) ([]) None (t.more_item (t.generate_if (t.more_generate_branch (p 3 2) (t.number
    (p 5 2) (lit 32 false true 0 0)) (t.several (p 7 2) None (t.more_item (t.directed (dr (p 8 3) t.input None false
    None) ((x (codes "a") 9 3) ∷ [])) t.no_item)) t.no_generate_branch) t.no_generate_else) t.no_item)) ∷ [])

not_taken : fault_in limits not_taken_text ≡ None
not_taken = refl

-- module m;
--   wire i;
--   for (i = 0; i < 3; i = i + 1) begin end
-- endmodule
abbrev loop_of_a_net_text : Source
loop_of_a_net_text =
    ((md (p 0 1) (x (codes "m") 1 1) ([]) None (t.more_item (t.nets (p 3 2) false None ((nt (x (codes "i") 4 2) None)
    ∷ [])) (t.more_item (t.generate_loop (p 6 3) (lo (x (codes "i") 8 3) (t.number (p 10 3) (lit 32 false true 0 0))
    (t.chain (t.read (x (codes "i") 12 3) t.no_select) (t.more_link b.Lt (p 13 3) (t.number (p 14 3) (lit 32 false
    true 3 0)) t.no_link)) (x (codes "i") 16 3) (t.chain (t.read (x (codes "i") 18 3) t.no_select) (t.more_link b.Add
    (p 19 3) (t.number (p 20 3) (lit 32 false true 1 0)) t.no_link))) (t.several (p 22 3) None t.no_item))
    t.no_item))) ∷ [])

loop_of_a_net : fault_in limits loop_of_a_net_text ≡ Some (4, (Some 6, k.Misplaced))
loop_of_a_net = refl

-- module m;
--   genvar i, j;
--   for (i = 0; i < 3; j = i + 1) begin end
-- endmodule
abbrev loop_of_two_genvars_text : Source
loop_of_two_genvars_text =
    ((md (p 0 1) (x (codes "m") 1 1) ([]) None (t.more_item (t.genvar (p 3 2) ((x (codes "i") 4 2) ∷ (x (codes "j") 6
    2) ∷ [])) (t.more_item (t.generate_loop (p 8 3) (lo (x (codes "i") 10 3) (t.number (p 12 3) (lit 32 false true 0
    0)) (t.chain (t.read (x (codes "i") 14 3) t.no_select) (t.more_link b.Lt (p 15 3) (t.number (p 16 3) (lit 32
    false true 3 0)) t.no_link)) (x (codes "j") 18 3) (t.chain (t.read (x (codes "i") 20 3) t.no_select) (t.more_link
    b.Add (p 21 3) (t.number (p 22 3) (lit 32 false true 1 0)) t.no_link))) (t.several (p 24 3) None t.no_item))
    t.no_item))) ∷ [])

loop_of_two_genvars : fault_in limits loop_of_two_genvars_text ≡ Some (4, (Some 8, k.Misplaced))
loop_of_two_genvars = refl

-- module m;
--   genvar i;
--   for (i = 0; i < 2; i = i + 1) begin
--     for (i = 0; i < 2; i = i + 1) begin end
--   end
-- endmodule
abbrev genvar_again_text : Source
genvar_again_text =
    ((md (p 0 1) (x (codes "m") 1 1) ([]) None (t.more_item (t.genvar (p 3 2) ((x (codes "i") 4 2) ∷ []))
    (t.more_item (t.generate_loop (p 6 3) (lo (x (codes "i") 8 3) (t.number (p 10 3) (lit 32 false true 0 0))
    (t.chain (t.read (x (codes "i") 12 3) t.no_select) (t.more_link b.Lt (p 13 3) (t.number (p 14 3) (lit 32 false
    true 2 0)) t.no_link)) (x (codes "i") 16 3) (t.chain (t.read (x (codes "i") 18 3) t.no_select) (t.more_link b.Add
    (p 19 3) (t.number (p 20 3) (lit 32 false true 1 0)) t.no_link))) (t.several (p 22 3) None (t.more_item
    (t.generate_loop (p 23 4) (lo (x (codes "i") 25 4) (t.number (p 27 4) (lit 32 false true 0 0)) (t.chain (t.read
    (x (codes "i") 29 4) t.no_select) (t.more_link b.Lt (p 30 4) (t.number (p 31 4) (lit 32 false true 2 0))
    t.no_link)) (x (codes "i") 33 4) (t.chain (t.read (x (codes "i") 35 4) t.no_select) (t.more_link b.Add (p 36 4)
    (t.number (p 37 4) (lit 32 false true 1 0)) t.no_link))) (t.several (p 39 4) None t.no_item)) t.no_item)))
    t.no_item))) ∷ [])

genvar_again : fault_in limits genvar_again_text ≡ None
genvar_again = refl

-- module m;
--   genvar i;
--   if (1) begin
--     for (i = 0; i < 2; i = i + 1) begin end
--     localparam i = 3;
--   end
-- endmodule
abbrev genvar_before_a_parameter_text : Source
genvar_before_a_parameter_text =
    ((md (p 0 1) (x (codes "m") 1 1) ([]) None (t.more_item (t.genvar (p 3 2) ((x (codes "i") 4 2) ∷ []))
    (t.more_item (t.generate_if (t.more_generate_branch (p 6 3) (t.number (p 8 3) (lit 32 false true 1 0)) (t.several
    (p 10 3) None (t.more_item (t.generate_loop (p 11 4) (lo (x (codes "i") 13 4) (t.number (p 15 4) (lit 32 false
    true 0 0)) (t.chain (t.read (x (codes "i") 17 4) t.no_select) (t.more_link b.Lt (p 18 4) (t.number (p 19 4) (lit
    32 false true 2 0)) t.no_link)) (x (codes "i") 21 4) (t.chain (t.read (x (codes "i") 23 4) t.no_select)
    (t.more_link b.Add (p 24 4) (t.number (p 25 4) (lit 32 false true 1 0)) t.no_link))) (t.several (p 27 4) None
    t.no_item)) (t.more_item (t.parameter (p 29 5) true false None ((vl (x (codes "i") 30 5) (t.number (p 32 5) (lit
    32 false true 3 0))) ∷ [])) t.no_item))) t.no_generate_branch) t.no_generate_else) t.no_item))) ∷ [])

genvar_before_a_parameter : fault_in limits genvar_before_a_parameter_text ≡ None
genvar_before_a_parameter = refl

-- module m;
--   genvar i;
--   if (1) begin
--     localparam i = 3;
--     for (i = 0; i < 2; i = i + 1) begin end
--   end
-- endmodule
abbrev genvar_behind_a_parameter_text : Source
genvar_behind_a_parameter_text =
    ((md (p 0 1) (x (codes "m") 1 1) ([]) None (t.more_item (t.genvar (p 3 2) ((x (codes "i") 4 2) ∷ []))
    (t.more_item (t.generate_if (t.more_generate_branch (p 6 3) (t.number (p 8 3) (lit 32 false true 1 0)) (t.several
    (p 10 3) None (t.more_item (t.parameter (p 11 4) true false None ((vl (x (codes "i") 12 4) (t.number (p 14 4)
    (lit 32 false true 3 0))) ∷ [])) (t.more_item (t.generate_loop (p 16 5) (lo (x (codes "i") 18 5) (t.number (p 20
    5) (lit 32 false true 0 0)) (t.chain (t.read (x (codes "i") 22 5) t.no_select) (t.more_link b.Lt (p 23 5)
    (t.number (p 24 5) (lit 32 false true 2 0)) t.no_link)) (x (codes "i") 26 5) (t.chain (t.read (x (codes "i") 28
    5) t.no_select) (t.more_link b.Add (p 29 5) (t.number (p 30 5) (lit 32 false true 1 0)) t.no_link))) (t.several
    (p 32 5) None t.no_item)) t.no_item))) t.no_generate_branch) t.no_generate_else) t.no_item))) ∷ [])

genvar_behind_a_parameter : fault_in limits genvar_behind_a_parameter_text ≡ Some (4, (Some 16, k.Misplaced))
genvar_behind_a_parameter = refl

-- module m;
--   genvar i;
--   if (1) begin
--     wire i;
--     for (i = 0; i < 3; i = i + 1) begin end
--   end
-- endmodule
abbrev genvar_hidden_text : Source
genvar_hidden_text =
    ((md (p 0 1) (x (codes "m") 1 1) ([]) None (t.more_item (t.genvar (p 3 2) ((x (codes "i") 4 2) ∷ []))
    (t.more_item (t.generate_if (t.more_generate_branch (p 6 3) (t.number (p 8 3) (lit 32 false true 1 0)) (t.several
    (p 10 3) None (t.more_item (t.nets (p 11 4) false None ((nt (x (codes "i") 12 4) None) ∷ [])) (t.more_item
    (t.generate_loop (p 14 5) (lo (x (codes "i") 16 5) (t.number (p 18 5) (lit 32 false true 0 0)) (t.chain (t.read
    (x (codes "i") 20 5) t.no_select) (t.more_link b.Lt (p 21 5) (t.number (p 22 5) (lit 32 false true 3 0))
    t.no_link)) (x (codes "i") 24 5) (t.chain (t.read (x (codes "i") 26 5) t.no_select) (t.more_link b.Add (p 27 5)
    (t.number (p 28 5) (lit 32 false true 1 0)) t.no_link))) (t.several (p 30 5) None t.no_item)) t.no_item)))
    t.no_generate_branch) t.no_generate_else) t.no_item))) ∷ [])

genvar_hidden : fault_in limits genvar_hidden_text ≡ Some (4, (Some 14, k.Misplaced))
genvar_hidden = refl

-- ---- constants

-- module m;
--   wire a;
--   wire [a:0] b;
-- endmodule
abbrev bound_of_a_net_text : Source
bound_of_a_net_text =
    ((md (p 0 1) (x (codes "m") 1 1) ([]) None (t.more_item (t.nets (p 3 2) false None ((nt (x (codes "a") 4 2) None)
    ∷ [])) (t.more_item (t.nets (p 6 3) false (Some (rg (p 7 3) (t.read (x (codes "a") 8 3) t.no_select) (t.number (p
    10 3) (lit 32 false true 0 0)))) ((nt (x (codes "b") 12 3) None) ∷ [])) t.no_item))) ∷ [])

bound_of_a_net : fault_in limits bound_of_a_net_text ≡ Some (4, (Some 8, k.NotConstant))
bound_of_a_net = refl

-- module m;
--   wire [P:0] a;
--   parameter P = 1;
-- endmodule
abbrev before_its_declaration_text : Source
before_its_declaration_text =
    ((md (p 0 1) (x (codes "m") 1 1) ([]) None (t.more_item (t.nets (p 3 2) false (Some (rg (p 4 2) (t.read (x (codes
    "P") 5 2) t.no_select) (t.number (p 7 2) (lit 32 false true 0 0)))) ((nt (x (codes "a") 9 2) None) ∷ []))
    (t.more_item (t.parameter (p 11 3) false false None ((vl (x (codes "P") 12 3) (t.number (p 14 3) (lit 32 false
    true 1 0))) ∷ [])) t.no_item))) ∷ [])

before_its_declaration : fault_in limits before_its_declaration_text ≡ Some (4, (Some 5, k.NotConstant))
before_its_declaration = refl

-- module m;
--   parameter P = P;
-- endmodule
abbrev of_itself_text : Source
of_itself_text =
    ((md (p 0 1) (x (codes "m") 1 1) ([]) None (t.more_item (t.parameter (p 3 2) false false None ((vl (x (codes "P")
    4 2) (t.read (x (codes "P") 6 2) t.no_select)) ∷ [])) t.no_item)) ∷ [])

of_itself : fault_in limits of_itself_text ≡ Some (4, (Some 6, k.NotConstant))
of_itself = refl

-- module m;
--   parameter P = 1;
--   wire [P:0] a;
-- endmodule
abbrev behind_its_declaration_text : Source
behind_its_declaration_text =
    ((md (p 0 1) (x (codes "m") 1 1) ([]) None (t.more_item (t.parameter (p 3 2) false false None ((vl (x (codes "P")
    4 2) (t.number (p 6 2) (lit 32 false true 1 0))) ∷ [])) (t.more_item (t.nets (p 8 3) false (Some (rg (p 9 3)
    (t.read (x (codes "P") 10 3) t.no_select) (t.number (p 12 3) (lit 32 false true 0 0)))) ((nt (x (codes "a") 14 3)
    None) ∷ [])) t.no_item))) ∷ [])

behind_its_declaration : fault_in limits behind_its_declaration_text ≡ None
behind_its_declaration = refl

-- module m #(parameter P = 1, Q = P) (input [Q:0] a);
-- endmodule
abbrev of_a_header_text : Source
of_a_header_text =
    ((md (p 0 1) (x (codes "m") 1 1) ((t.declared_parameter (p 4 1) false None (x (codes "P") 5 1) (t.number (p 7 1)
    (lit 32 false true 1 0))) ∷ (t.next_parameter (x (codes "Q") 9 1) (t.read (x (codes "P") 11 1) t.no_select)) ∷
    []) (Some ((t.declared_port (dr (p 14 1) t.input None false (Some (rg (p 15 1) (t.read (x (codes "Q") 16 1)
    t.no_select) (t.number (p 18 1) (lit 32 false true 0 0))))) (x (codes "a") 20 1)) ∷ [])) t.no_item) ∷ [])

of_a_header : fault_in limits of_a_header_text ≡ None
of_a_header = refl

-- module c;
--   wire [P:0] a;
-- endmodule
-- module m;
--   parameter P = 1;
--   c x();
-- endmodule
abbrev not_from_outside_text : Source
not_from_outside_text =
    ((md (p 0 1) (x (codes "c") 1 1) ([]) None (t.more_item (t.nets (p 3 2) false (Some (rg (p 4 2) (t.read (x (codes
    "P") 5 2) t.no_select) (t.number (p 7 2) (lit 32 false true 0 0)))) ((nt (x (codes "a") 9 2) None) ∷ []))
    t.no_item)) ∷ (md (p 12 4) (x (codes "m") 13 4) ([]) None (t.more_item (t.parameter (p 15 5) false false None
    ((vl (x (codes "P") 16 5) (t.number (p 18 5) (lit 32 false true 1 0))) ∷ [])) (t.more_item (t.instances (x (codes
    "c") 20 6) None ((ins (x (codes "x") 21 6) None) ∷ [])) t.no_item))) ∷ [])

not_from_outside : fault_in limits not_from_outside_text ≡ Some (4, (Some 5, k.NotConstant))
not_from_outside = refl

-- module m;
--   parameter P = 1;
--   if (1) begin
--     wire [P:0] a;
--     wire P;
--   end
-- endmodule
abbrev hidden_by_a_net_text : Source
hidden_by_a_net_text =
    ((md (p 0 1) (x (codes "m") 1 1) ([]) None (t.more_item (t.parameter (p 3 2) false false None ((vl (x (codes "P")
    4 2) (t.number (p 6 2) (lit 32 false true 1 0))) ∷ [])) (t.more_item (t.generate_if (t.more_generate_branch (p 8
    3) (t.number (p 10 3) (lit 32 false true 1 0)) (t.several (p 12 3) None (t.more_item (t.nets (p 13 4) false (Some
    (rg (p 14 4) (t.read (x (codes "P") 15 4) t.no_select) (t.number (p 17 4) (lit 32 false true 0 0)))) ((nt (x
    (codes "a") 19 4) None) ∷ [])) (t.more_item (t.nets (p 21 5) false None ((nt (x (codes "P") 22 5) None) ∷ []))
    t.no_item))) t.no_generate_branch) t.no_generate_else) t.no_item))) ∷ [])

hidden_by_a_net : fault_in limits hidden_by_a_net_text ≡ Some (4, (Some 15, k.NotConstant))
hidden_by_a_net = refl

-- module m;
--   parameter P = 1;
--   if (1) begin
--     wire [P:0] a;
--     localparam P = 2;
--   end
-- endmodule
abbrev inner_parameter_later_text : Source
inner_parameter_later_text =
    ((md (p 0 1) (x (codes "m") 1 1) ([]) None (t.more_item (t.parameter (p 3 2) false false None ((vl (x (codes "P")
    4 2) (t.number (p 6 2) (lit 32 false true 1 0))) ∷ [])) (t.more_item (t.generate_if (t.more_generate_branch (p 8
    3) (t.number (p 10 3) (lit 32 false true 1 0)) (t.several (p 12 3) None (t.more_item (t.nets (p 13 4) false (Some
    (rg (p 14 4) (t.read (x (codes "P") 15 4) t.no_select) (t.number (p 17 4) (lit 32 false true 0 0)))) ((nt (x
    (codes "a") 19 4) None) ∷ [])) (t.more_item (t.parameter (p 21 5) true false None ((vl (x (codes "P") 22 5)
    (t.number (p 24 5) (lit 32 false true 2 0))) ∷ [])) t.no_item))) t.no_generate_branch) t.no_generate_else)
    t.no_item))) ∷ [])

inner_parameter_later : fault_in limits inner_parameter_later_text ≡ None
inner_parameter_later = refl

-- module m;
--   genvar i;
--   wire [i:0] a;
-- endmodule
abbrev genvar_outside_text : Source
genvar_outside_text =
    ((md (p 0 1) (x (codes "m") 1 1) ([]) None (t.more_item (t.genvar (p 3 2) ((x (codes "i") 4 2) ∷ []))
    (t.more_item (t.nets (p 6 3) false (Some (rg (p 7 3) (t.read (x (codes "i") 8 3) t.no_select) (t.number (p 10 3)
    (lit 32 false true 0 0)))) ((nt (x (codes "a") 12 3) None) ∷ [])) t.no_item))) ∷ [])

genvar_outside : fault_in limits genvar_outside_text ≡ Some (4, (Some 8, k.NotConstant))
genvar_outside = refl

-- module m;
--   genvar i;
--   for (i = 1; i < 2; i = i + 1) wire [i:0] a;
-- endmodule
abbrev genvar_inside_text : Source
genvar_inside_text =
    ((md (p 0 1) (x (codes "m") 1 1) ([]) None (t.more_item (t.genvar (p 3 2) ((x (codes "i") 4 2) ∷ []))
    (t.more_item (t.generate_loop (p 6 3) (lo (x (codes "i") 8 3) (t.number (p 10 3) (lit 32 false true 1 0))
    (t.chain (t.read (x (codes "i") 12 3) t.no_select) (t.more_link b.Lt (p 13 3) (t.number (p 14 3) (lit 32 false
    true 2 0)) t.no_link)) (x (codes "i") 16 3) (t.chain (t.read (x (codes "i") 18 3) t.no_select) (t.more_link b.Add
    (p 19 3) (t.number (p 20 3) (lit 32 false true 1 0)) t.no_link))) (t.single (t.nets (p 22 3) false (Some (rg (p
    23 3) (t.read (x (codes "i") 24 3) t.no_select) (t.number (p 26 3) (lit 32 false true 0 0)))) ((nt (x (codes "a")
    28 3) None) ∷ [])))) t.no_item))) ∷ [])

genvar_inside : fault_in limits genvar_inside_text ≡ None
genvar_inside = refl

-- module m;
--   parameter P = $signed(1);
-- endmodule
abbrev changed_sign_text : Source
changed_sign_text =
    ((md (p 0 1) (x (codes "m") 1 1) ([]) None (t.more_item (t.parameter (p 3 2) false false None ((vl (x (codes "P")
    4 2) (t.system (p 6 2) t.to_signed (t.number (p 8 2) (lit 32 false true 1 0)))) ∷ [])) t.no_item)) ∷ [])

changed_sign : fault_in limits changed_sign_text ≡ Some (4, (Some 6, k.NotConstant))
changed_sign = refl

-- module m;
--   wire [$clog2(5):0] a;
-- endmodule
abbrev logarithm_text : Source
logarithm_text =
    ((md (p 0 1) (x (codes "m") 1 1) ([]) None (t.more_item (t.nets (p 3 2) false (Some (rg (p 4 2) (t.system (p 5 2)
    t.clog2 (t.number (p 7 2) (lit 32 false true 5 0))) (t.number (p 10 2) (lit 32 false true 0 0)))) ((nt (x (codes
    "a") 12 2) None) ∷ [])) t.no_item)) ∷ [])

logarithm : fault_in limits logarithm_text ≡ None
logarithm = refl

-- module m;
--   parameter P = {0{1}};
-- endmodule
abbrev fault_of_phase_6_text : Source
fault_of_phase_6_text =
    ((md (p 0 1) (x (codes "m") 1 1) ([]) None (t.more_item (t.parameter (p 3 2) false false None ((vl (x (codes "P")
    4 2) (t.repeat (p 6 2) (t.number (p 7 2) (lit 32 false true 0 0)) (t.more_expr (t.number (p 9 2) (lit 32 false
    true 1 0)) t.no_expr))) ∷ [])) t.no_item)) ∷ [])

fault_of_phase_6 : fault_in limits fault_of_phase_6_text ≡ Some (4, (Some 6, k.NotConstant))
fault_of_phase_6 = refl

-- module m;
--   parameter [200:0] P = 1;
-- endmodule
abbrev value_of_a_bad_range_text : Source
value_of_a_bad_range_text =
    ((md (p 0 1) (x (codes "m") 1 1) ([]) None (t.more_item (t.parameter (p 3 2) false false (Some (rg (p 4 2)
    (t.number (p 5 2) (lit 32 false true 200 0)) (t.number (p 7 2) (lit 32 false true 0 0)))) ((vl (x (codes "P") 9
    2) (t.number (p 11 2) (lit 32 false true 1 0))) ∷ [])) t.no_item)) ∷ [])

value_of_a_bad_range : fault_in limits value_of_a_bad_range_text ≡ Some (4, (Some 11, k.NotConstant))
value_of_a_bad_range = refl

-- module c;
--   parameter [0:-1] P = 1;
-- endmodule
-- module m;
--   c #(.P(2)) x();
-- endmodule
abbrev given_for_a_bad_range_text : Source
given_for_a_bad_range_text =
    ((md (p 0 1) (x (codes "c") 1 1) ([]) None (t.more_item (t.parameter (p 3 2) false false (Some (rg (p 4 2)
    (t.number (p 5 2) (lit 32 false true 0 0)) (t.unary (p 7 2) u.Minus (t.number (p 8 2) (lit 32 false true 1 0)))))
    ((vl (x (codes "P") 10 2) (t.number (p 12 2) (lit 32 false true 1 0))) ∷ [])) t.no_item)) ∷ (md (p 15 4) (x
    (codes "m") 16 4) ([]) None (t.more_item (t.instances (x (codes "c") 18 5) (Some (Some (t.by_name ((nb (p 21 5)
    (x (codes "P") 22 5) (Some (t.number (p 24 5) (lit 32 false true 2 0)))) ∷ [])))) ((ins (x (codes "x") 27 5)
    None) ∷ [])) t.no_item)) ∷ [])

given_for_a_bad_range : fault_in limits given_for_a_bad_range_text ≡ Some (4, (Some 24, k.NotConstant))
given_for_a_bad_range = refl

-- module c #(parameter P = 1);
--   wire [P + q:0] a;
-- endmodule
-- module m;
--   c #(q) x();
-- endmodule
abbrev what_rests_on_a_fault_text : Source
what_rests_on_a_fault_text =
    ((md (p 0 1) (x (codes "c") 1 1) ((t.declared_parameter (p 4 1) false None (x (codes "P") 5 1) (t.number (p 7 1)
    (lit 32 false true 1 0))) ∷ []) None (t.more_item (t.nets (p 10 2) false (Some (rg (p 11 2) (t.chain (t.read (x
    (codes "P") 12 2) t.no_select) (t.more_link b.Add (p 13 2) (t.read (x (codes "q") 14 2) t.no_select) t.no_link))
    (t.number (p 16 2) (lit 32 false true 0 0)))) ((nt (x (codes "a") 18 2) None) ∷ [])) t.no_item)) ∷ (md (p 21 4)
    (x (codes "m") 22 4) ([]) None (t.more_item (t.instances (x (codes "c") 24 5) (Some (Some (t.ordered (t.more_expr
    (t.read (x (codes "q") 27 5) t.no_select) t.no_expr)))) ((ins (x (codes "x") 29 5) None) ∷ [])) t.no_item)) ∷ [])

what_rests_on_a_fault : fault_in limits what_rests_on_a_fault_text ≡ Some (4, (Some 27, k.NotConstant))
what_rests_on_a_fault = refl

-- module c #(parameter P = 1);
--   wire [q:0] a;
-- endmodule
-- module m;
--   c #(q) x();
-- endmodule
abbrev what_does_not_rest_on_it_text : Source
what_does_not_rest_on_it_text =
    ((md (p 0 1) (x (codes "c") 1 1) ((t.declared_parameter (p 4 1) false None (x (codes "P") 5 1) (t.number (p 7 1)
    (lit 32 false true 1 0))) ∷ []) None (t.more_item (t.nets (p 10 2) false (Some (rg (p 11 2) (t.read (x (codes
    "q") 12 2) t.no_select) (t.number (p 14 2) (lit 32 false true 0 0)))) ((nt (x (codes "a") 16 2) None) ∷ []))
    t.no_item)) ∷ (md (p 19 4) (x (codes "m") 20 4) ([]) None (t.more_item (t.instances (x (codes "c") 22 5) (Some
    (Some (t.ordered (t.more_expr (t.read (x (codes "q") 25 5) t.no_select) t.no_expr)))) ((ins (x (codes "x") 27 5)
    None) ∷ [])) t.no_item)) ∷ [])

what_does_not_rest_on_it : fault_in limits what_does_not_rest_on_it_text ≡ Some (4, (Some 12, k.NotConstant))
what_does_not_rest_on_it = refl

-- module m;
--   wire a;
--   if (a) begin end
-- endmodule
abbrev condition_text : Source
condition_text =
    ((md (p 0 1) (x (codes "m") 1 1) ([]) None (t.more_item (t.nets (p 3 2) false None ((nt (x (codes "a") 4 2) None)
    ∷ [])) (t.more_item (t.generate_if (t.more_generate_branch (p 6 3) (t.read (x (codes "a") 8 3) t.no_select)
    (t.several (p 10 3) None t.no_item) t.no_generate_branch) t.no_generate_else) t.no_item))) ∷ [])

condition : fault_in limits condition_text ≡ Some (4, (Some 8, k.NotConstant))
condition = refl

-- module m;
--   wire a;
--   if (1) begin end else if (a) begin end
-- endmodule
abbrev condition_behind_the_taken_text : Source
condition_behind_the_taken_text =
    ((md (p 0 1) (x (codes "m") 1 1) ([]) None (t.more_item (t.nets (p 3 2) false None ((nt (x (codes "a") 4 2) None)
    ∷ [])) (t.more_item (t.generate_if (t.more_generate_branch (p 6 3) (t.number (p 8 3) (lit 32 false true 1 0))
    (t.several (p 10 3) None t.no_item) (t.more_generate_branch (p 13 3) (t.read (x (codes "a") 15 3) t.no_select)
    (t.several (p 17 3) None t.no_item) t.no_generate_branch)) t.no_generate_else) t.no_item))) ∷ [])

condition_behind_the_taken : fault_in limits condition_behind_the_taken_text ≡ None
condition_behind_the_taken = refl

-- module m;
--   genvar i;
--   for (i = 0; i < 3; i = j) begin end
-- endmodule
abbrev step_of_a_loop_text : Source
step_of_a_loop_text =
    ((md (p 0 1) (x (codes "m") 1 1) ([]) None (t.more_item (t.genvar (p 3 2) ((x (codes "i") 4 2) ∷ []))
    (t.more_item (t.generate_loop (p 6 3) (lo (x (codes "i") 8 3) (t.number (p 10 3) (lit 32 false true 0 0))
    (t.chain (t.read (x (codes "i") 12 3) t.no_select) (t.more_link b.Lt (p 13 3) (t.number (p 14 3) (lit 32 false
    true 3 0)) t.no_link)) (x (codes "i") 16 3) (t.read (x (codes "j") 18 3) t.no_select)) (t.several (p 20 3) None
    t.no_item)) t.no_item))) ∷ [])

step_of_a_loop : fault_in limits step_of_a_loop_text ≡ Some (4, (Some 18, k.NotConstant))
step_of_a_loop = refl

-- module m;
--   function [w:0] f;
--     input a;
--     f = a;
--   endfunction
-- endmodule
abbrev bounds_of_a_function_text : Source
bounds_of_a_function_text =
    ((md (p 0 1) (x (codes "m") 1 1) ([]) None (t.more_item (t.function (fn (p 3 2) false false (t.range_result (rg
    (p 4 2) (t.read (x (codes "w") 5 2) t.no_select) (t.number (p 7 2) (lit 32 false true 0 0)))) (x (codes "f") 9 2)
    ([]) ((t.inputs (p 11 3) false None ((x (codes "a") 12 3) ∷ [])) ∷ []) (t.assign (t.name (x (codes "f") 14 4)
    t.no_select) t.blocking (p 15 4) (t.read (x (codes "a") 16 4) t.no_select)))) t.no_item)) ∷ [])

bounds_of_a_function : fault_in limits bounds_of_a_function_text ≡ Some (4, (Some 5, k.NotConstant))
bounds_of_a_function = refl

-- module m;
--   parameter W = 4;
--   function [3:0] f;
--     input W;
--     reg [W - 1:0] t;
--     f = W;
--   endfunction
-- endmodule
abbrev hidden_in_a_function_text : Source
hidden_in_a_function_text =
    ((md (p 0 1) (x (codes "m") 1 1) ([]) None (t.more_item (t.parameter (p 3 2) false false None ((vl (x (codes "W")
    4 2) (t.number (p 6 2) (lit 32 false true 4 0))) ∷ [])) (t.more_item (t.function (fn (p 8 3) false false
    (t.range_result (rg (p 9 3) (t.number (p 10 3) (lit 32 false true 3 0)) (t.number (p 12 3) (lit 32 false true 0
    0)))) (x (codes "f") 14 3) ([]) ((t.inputs (p 16 4) false None ((x (codes "W") 17 4) ∷ [])) ∷ (t.variables (p 19
    5) false (Some (rg (p 20 5) (t.chain (t.read (x (codes "W") 21 5) t.no_select) (t.more_link b.Sub (p 22 5)
    (t.number (p 23 5) (lit 32 false true 1 0)) t.no_link)) (t.number (p 25 5) (lit 32 false true 0 0)))) ((x (codes
    "t") 27 5) ∷ [])) ∷ []) (t.assign (t.name (x (codes "f") 29 6) t.no_select) t.blocking (p 30 6) (t.read (x (codes
    "W") 31 6) t.no_select)))) t.no_item))) ∷ [])

hidden_in_a_function : fault_in limits hidden_in_a_function_text ≡ Some (4, (Some 21, k.NotConstant))
hidden_in_a_function = refl

-- module m;
--   parameter W = 4;
--   function [W:0] f;
--     input W;
--     f = W;
--   endfunction
-- endmodule
abbrev result_stands_outside_text : Source
result_stands_outside_text =
    ((md (p 0 1) (x (codes "m") 1 1) ([]) None (t.more_item (t.parameter (p 3 2) false false None ((vl (x (codes "W")
    4 2) (t.number (p 6 2) (lit 32 false true 4 0))) ∷ [])) (t.more_item (t.function (fn (p 8 3) false false
    (t.range_result (rg (p 9 3) (t.read (x (codes "W") 10 3) t.no_select) (t.number (p 12 3) (lit 32 false true 0
    0)))) (x (codes "f") 14 3) ([]) ((t.inputs (p 16 4) false None ((x (codes "W") 17 4) ∷ [])) ∷ []) (t.assign
    (t.name (x (codes "f") 19 5) t.no_select) t.blocking (p 20 5) (t.read (x (codes "W") 21 5) t.no_select))))
    t.no_item))) ∷ [])

result_stands_outside : fault_in limits result_stands_outside_text ≡ None
result_stands_outside = refl

-- module m;
--   reg a [0:w];
-- endmodule
abbrev words_of_a_memory_text : Source
words_of_a_memory_text =
    ((md (p 0 1) (x (codes "m") 1 1) ([]) None (t.more_item (t.registers (p 3 2) false None ((t.memory (x (codes "a")
    4 2) (rg (p 5 2) (t.number (p 6 2) (lit 32 false true 0 0)) (t.read (x (codes "w") 8 2) t.no_select))) ∷ []))
    t.no_item)) ∷ [])

words_of_a_memory : fault_in limits words_of_a_memory_text ≡ Some (4, (Some 8, k.NotConstant))
words_of_a_memory = refl

-- ---- a value is cut to the declared width, and else has its own: the loops have as many turns as may be, or one more

-- module m;
--   parameter [1:0] P = 7;
--   genvar i;
--   for (i = 0; i < P; i = i + 1) begin end
-- endmodule
abbrev value_cut_text : Source
value_cut_text =
    ((md (p 0 1) (x (codes "m") 1 1) ([]) None (t.more_item (t.parameter (p 3 2) false false (Some (rg (p 4 2)
    (t.number (p 5 2) (lit 32 false true 1 0)) (t.number (p 7 2) (lit 32 false true 0 0)))) ((vl (x (codes "P") 9 2)
    (t.number (p 11 2) (lit 32 false true 7 0))) ∷ [])) (t.more_item (t.genvar (p 13 3) ((x (codes "i") 14 3) ∷ []))
    (t.more_item (t.generate_loop (p 16 4) (lo (x (codes "i") 18 4) (t.number (p 20 4) (lit 32 false true 0 0))
    (t.chain (t.read (x (codes "i") 22 4) t.no_select) (t.more_link b.Lt (p 23 4) (t.read (x (codes "P") 24 4)
    t.no_select) t.no_link)) (x (codes "i") 26 4) (t.chain (t.read (x (codes "i") 28 4) t.no_select) (t.more_link
    b.Add (p 29 4) (t.number (p 30 4) (lit 32 false true 1 0)) t.no_link))) (t.several (p 32 4) None t.no_item))
    t.no_item)))) ∷ [])

value_cut : fault_in few value_cut_text ≡ None
value_cut = refl

-- module m;
--   parameter P = 7;
--   genvar i;
--   for (i = 0; i < P; i = i + 1) begin end
-- endmodule
abbrev value_whole_text : Source
value_whole_text =
    ((md (p 0 1) (x (codes "m") 1 1) ([]) None (t.more_item (t.parameter (p 3 2) false false None ((vl (x (codes "P")
    4 2) (t.number (p 6 2) (lit 32 false true 7 0))) ∷ [])) (t.more_item (t.genvar (p 8 3) ((x (codes "i") 9 3) ∷
    [])) (t.more_item (t.generate_loop (p 11 4) (lo (x (codes "i") 13 4) (t.number (p 15 4) (lit 32 false true 0 0))
    (t.chain (t.read (x (codes "i") 17 4) t.no_select) (t.more_link b.Lt (p 18 4) (t.read (x (codes "P") 19 4)
    t.no_select) t.no_link)) (x (codes "i") 21 4) (t.chain (t.read (x (codes "i") 23 4) t.no_select) (t.more_link
    b.Add (p 24 4) (t.number (p 25 4) (lit 32 false true 1 0)) t.no_link))) (t.several (p 27 4) None t.no_item))
    t.no_item)))) ∷ [])

value_whole : fault_in few value_whole_text ≡ Some (4, (Some 11, k.TooManyTurns))
value_whole = refl

-- module m;
--   parameter [4:0] P = 4'd15 + 4'd1;
--   genvar i;
--   for (i = 0; i < P; i = i + 1) begin end
-- endmodule
abbrev sum_at_the_declared_width_text : Source
sum_at_the_declared_width_text =
    ((md (p 0 1) (x (codes "m") 1 1) ([]) None (t.more_item (t.parameter (p 3 2) false false (Some (rg (p 4 2)
    (t.number (p 5 2) (lit 32 false true 4 0)) (t.number (p 7 2) (lit 32 false true 0 0)))) ((vl (x (codes "P") 9 2)
    (t.chain (t.number (p 11 2) (lit 4 true false 15 0)) (t.more_link b.Add (p 12 2) (t.number (p 13 2) (lit 4 true
    false 1 0)) t.no_link))) ∷ [])) (t.more_item (t.genvar (p 15 3) ((x (codes "i") 16 3) ∷ [])) (t.more_item
    (t.generate_loop (p 18 4) (lo (x (codes "i") 20 4) (t.number (p 22 4) (lit 32 false true 0 0)) (t.chain (t.read
    (x (codes "i") 24 4) t.no_select) (t.more_link b.Lt (p 25 4) (t.read (x (codes "P") 26 4) t.no_select)
    t.no_link)) (x (codes "i") 28 4) (t.chain (t.read (x (codes "i") 30 4) t.no_select) (t.more_link b.Add (p 31 4)
    (t.number (p 32 4) (lit 32 false true 1 0)) t.no_link))) (t.several (p 34 4) None t.no_item)) t.no_item)))) ∷ [])

sum_at_the_declared_width : fault_in few sum_at_the_declared_width_text ≡ Some (4, (Some 18, k.TooManyTurns))
sum_at_the_declared_width = refl

-- module m;
--   parameter P = 4'd15 + 4'd1;
--   genvar i;
--   for (i = 0; i < P; i = i + 1) begin end
-- endmodule
abbrev sum_at_its_own_width_text : Source
sum_at_its_own_width_text =
    ((md (p 0 1) (x (codes "m") 1 1) ([]) None (t.more_item (t.parameter (p 3 2) false false None ((vl (x (codes "P")
    4 2) (t.chain (t.number (p 6 2) (lit 4 true false 15 0)) (t.more_link b.Add (p 7 2) (t.number (p 8 2) (lit 4 true
    false 1 0)) t.no_link))) ∷ [])) (t.more_item (t.genvar (p 10 3) ((x (codes "i") 11 3) ∷ [])) (t.more_item
    (t.generate_loop (p 13 4) (lo (x (codes "i") 15 4) (t.number (p 17 4) (lit 32 false true 0 0)) (t.chain (t.read
    (x (codes "i") 19 4) t.no_select) (t.more_link b.Lt (p 20 4) (t.read (x (codes "P") 21 4) t.no_select)
    t.no_link)) (x (codes "i") 23 4) (t.chain (t.read (x (codes "i") 25 4) t.no_select) (t.more_link b.Add (p 26 4)
    (t.number (p 27 4) (lit 32 false true 1 0)) t.no_link))) (t.several (p 29 4) None t.no_item)) t.no_item)))) ∷ [])

sum_at_its_own_width : fault_in few sum_at_its_own_width_text ≡ None
sum_at_its_own_width = refl

-- module m #(parameter [1:0] P = 7, Q = 7);
--   genvar i;
--   for (i = 0; i < Q; i = i + 1) begin end
-- endmodule
abbrev type_of_the_one_before_text : Source
type_of_the_one_before_text =
    ((md (p 0 1) (x (codes "m") 1 1) ((t.declared_parameter (p 4 1) false (Some (rg (p 5 1) (t.number (p 6 1) (lit 32
    false true 1 0)) (t.number (p 8 1) (lit 32 false true 0 0)))) (x (codes "P") 10 1) (t.number (p 12 1) (lit 32
    false true 7 0))) ∷ (t.next_parameter (x (codes "Q") 14 1) (t.number (p 16 1) (lit 32 false true 7 0))) ∷ [])
    None (t.more_item (t.genvar (p 19 2) ((x (codes "i") 20 2) ∷ [])) (t.more_item (t.generate_loop (p 22 3) (lo (x
    (codes "i") 24 3) (t.number (p 26 3) (lit 32 false true 0 0)) (t.chain (t.read (x (codes "i") 28 3) t.no_select)
    (t.more_link b.Lt (p 29 3) (t.read (x (codes "Q") 30 3) t.no_select) t.no_link)) (x (codes "i") 32 3) (t.chain
    (t.read (x (codes "i") 34 3) t.no_select) (t.more_link b.Add (p 35 3) (t.number (p 36 3) (lit 32 false true 1 0))
    t.no_link))) (t.several (p 38 3) None t.no_item)) t.no_item))) ∷ [])

type_of_the_one_before : fault_in few type_of_the_one_before_text ≡ None
type_of_the_one_before = refl

-- module c #(parameter P = 1);
--   genvar i;
--   for (i = 0; i < P; i = i + 1) begin end
-- endmodule
-- module m;
--   c #(7) x();
-- endmodule
abbrev given_value_text : Source
given_value_text =
    ((md (p 0 1) (x (codes "c") 1 1) ((t.declared_parameter (p 4 1) false None (x (codes "P") 5 1) (t.number (p 7 1)
    (lit 32 false true 1 0))) ∷ []) None (t.more_item (t.genvar (p 10 2) ((x (codes "i") 11 2) ∷ [])) (t.more_item
    (t.generate_loop (p 13 3) (lo (x (codes "i") 15 3) (t.number (p 17 3) (lit 32 false true 0 0)) (t.chain (t.read
    (x (codes "i") 19 3) t.no_select) (t.more_link b.Lt (p 20 3) (t.read (x (codes "P") 21 3) t.no_select)
    t.no_link)) (x (codes "i") 23 3) (t.chain (t.read (x (codes "i") 25 3) t.no_select) (t.more_link b.Add (p 26 3)
    (t.number (p 27 3) (lit 32 false true 1 0)) t.no_link))) (t.several (p 29 3) None t.no_item)) t.no_item))) ∷ (md
    (p 32 5) (x (codes "m") 33 5) ([]) None (t.more_item (t.instances (x (codes "c") 35 6) (Some (Some (t.ordered
    (t.more_expr (t.number (p 38 6) (lit 32 false true 7 0)) t.no_expr)))) ((ins (x (codes "x") 40 6) None) ∷ []))
    t.no_item)) ∷ [])

given_value : fault_in few given_value_text ≡ Some (4, (Some 13, k.TooManyTurns))
given_value = refl
