use Rattle.std.proofs.Common.{◌≡◌, List, ◌∙◌, ap, sym, arith}
use Rattle.std.specs.Prelude.{Some, slice_get}
use Rattle.std.proofs.lemmas.Option.{slice_get_within, get_or_from_slice_get}
use Rattle.flat_ir.specs.declared.design.Signal.{Signal}
use Rattle.vl_tree.specs.View.{module_of}
use Rattle.vl_tree.specs.Tree.{Port, Module}
use Rattle.vl_meaning.specs.Objects.{port_place}
use Rattle.vl_proc.specs.Ports.{found}
use Rattle.vl_proc.proofs.Sees.{signal_at, no_place}
use Rattle.vl_proc.proofs.names.Scope.signal.Goals as goal

pub offset_bounds-self-number : goal.offset_bounds-self-number
offset_bounds-self-number c =
    let m : Module = module_of c.args.self.now.module.now in
    let s : (s : Signal) × (slice_get c.args.self.now.signals.now c.in-Some.number ≡ Some s) × (found m.clock 0 0 m.ports c.args.name.now ≡ Some s) =
    signal_at m.clock m.ports c.args.name.now c.in-Some.number c.args.self.now.signals.now c.find.result c.requires.declared c.requires.known.signals_are
    (c.find.ensures.number ∙ ap (λ (ps : List Port). port_place ps c.args.name.now) c.requires.known.named_are) c.in-Some.is in
    omega (arith, slice_get_within c.args.self.now.signals.now c.in-Some.number s.0 s.1, c.type_inv.self)

pub bounds-self-number : goal.bounds-self-number
bounds-self-number c =
    let m : Module = module_of c.args.self.now.module.now in
    let s : (s : Signal) × (slice_get c.args.self.now.signals.now c.in-Some.number ≡ Some s) × (found m.clock 0 0 m.ports c.args.name.now ≡ Some s) =
    signal_at m.clock m.ports c.args.name.now c.in-Some.number c.args.self.now.signals.now c.find.result c.requires.declared c.requires.known.signals_are
    (c.find.ensures.number ∙ ap (λ (ps : List Port). port_place ps c.args.name.now) c.requires.known.named_are) c.in-Some.is in
    slice_get_within c.args.self.now.signals.now c.in-Some.number s.0 s.1

pub unreachable-requires : goal.unreachable-requires
unreachable-requires c =
    let m : Module = module_of c.args.self.now.module.now in
    no_place m.ports c.args.name.now c.find.result c.requires.declared
    (c.find.ensures.number ∙ ap (λ (ps : List Port). port_place ps c.args.name.now) c.requires.known.named_are) c.in-None.is

pub returns : goal.returns
returns c =
    let m : Module = module_of c.args.self.now.module.now in
    let s : (s : Signal) × (slice_get c.args.self.now.signals.now c.in-Some.number ≡ Some s) × (found m.clock 0 0 m.ports c.args.name.now ≡ Some s) =
    signal_at m.clock m.ports c.args.name.now c.in-Some.number c.args.self.now.signals.now c.find.result c.requires.declared c.requires.known.signals_are
    (c.find.ensures.number ∙ ap (λ (ps : List Port). port_place ps c.args.name.now) c.requires.known.named_are) c.in-Some.is in
    s.2 ∙ ap Some (sym (get_or_from_slice_get c.args.self.now.signals.now c.in-Some.number s.0 c.index-self-number.result s.1))
