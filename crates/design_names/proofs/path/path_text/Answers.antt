use Rattle.std.proofs.Common.{◌∙◌, sym, length}
use Rattle.design_names.proofs.PathLaws.{first_there}
use Rattle.design_names.proofs.path.path_text.Goals as goal

pub push_name-requires : goal.push_name-requires
push_name-requires c =
    (first_there (length c.args.flat.now.scopes) c.in-Some.top.now c.in_ok-scopes.scopes.items c.in-Some.below.now
    (sym c.deref.ensures.value ∙ c.in-Some.ensures.cases.0) c.in_ok-scopes.ensures.there).0

pub push_behind-requires : goal.push_behind-requires
push_behind-requires c =
    (first_there (length c.args.flat.now.scopes) c.in-Some.top.now c.in_ok-scopes.scopes.items c.in-Some.below.now
    (sym c.deref.ensures.value ∙ c.in-Some.ensures.cases.0) c.in_ok-scopes.ensures.there).1
