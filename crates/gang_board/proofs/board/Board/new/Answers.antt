use Rattle.std.proofs.Common.{ℕ, sym, ap, ◌∙◌, subst, arith, length, List, []}
use Rattle.std.proofs.lemmas.List.FromFn.{length-map-range_with_len}
use mathlib.Core.Option.{none}
use Rattle.atomic_table.specs.Seated.{TableId}
use Rattle.atomic_table.specs.Table.{Me, step, opening, Allows}
use Rattle.board_rule.specs.Rule.{Ruled, word_count}
use Rattle.board_rule.specs.Plays.{all_posts, names}
use Rattle.gang_board.specs.Begins.{first_word}
use Rattle.board_rule.specs.declared.view.View.{View}
use Rattle.board_rule.specs.declared.setup.Setup.{Setup}
use Rattle.gang_board.proofs.Opening.{opens, names_keeps}
use Rattle.gang_board.proofs.board.Board.new.Goals as goal

pub of_words-requires : goal.of_words-requires
of_words-requires g c =
    let s : Setup = record { leaders = c.args.leaders; lag = c.args.lag; leader_at = c.args.leader_at; lagger_at = c.args.lagger_at } in
    subst (λ (ws : List ℕ). Ruled (opening ws [] (all_posts s))) (sym (c.deref.ensures.value ∙ c.in_ok-words.ensures))
    (opens s c.requires.count.0 c.requires.begins.behind)

pub load-requires : goal.load-requires
load-requires g c =
    let s : Setup = record { leaders = c.args.leaders; lag = c.args.lag; leader_at = c.args.leader_at; lagger_at = c.args.lagger_at } in
    let made = c.in_ok-table.ensures in let slots = c.in_ok-table.table.shared.table_id.slots in let id = c.in_ok-table.seat.id in
    let words = made.0 ∙ ap length (c.deref.ensures.value ∙ c.in_ok-words.ensures) ∙ length-map-range_with_len (first_word s) 0 (word_count s.leaders) in (
      made.2,
      omega (arith, words),
      subst (λ (m : Me ℕ View). Allows Ruled slots id m 0 (λ w. w) (names g.N.RunName.run (step slots 0 0 0 none) m)) (sym made.4)
          (names_keeps s g.N.RunName.run c.requires.count.0 c.requires.begins slots id (step slots 0 0 0 none)),
    )

pub leader_posts-requires-clause-board : goal.leader_posts-requires-clause-board
leader_posts-requires-clause-board g c =
    let s : Setup = record { leaders = c.args.leaders; lag = c.args.lag; leader_at = c.args.leader_at; lagger_at = c.args.lagger_at } in
    let made = c.in_ok-table.ensures in
    let words = made.0 ∙ ap length (c.deref.ensures.value ∙ c.in_ok-words.ensures) ∙ length-map-range_with_len (first_word s) 0 (word_count s.leaders) in
    let same = c.load.ensures.0 ∙ made.2 in (same, ap (λ (x : TableId). x.words) same ∙ words)

pub lag_posts-requires-clause-board : goal.lag_posts-requires-clause-board
lag_posts-requires-clause-board g c =
    let s : Setup = record { leaders = c.args.leaders; lag = c.args.lag; leader_at = c.args.leader_at; lagger_at = c.args.lagger_at } in
    let made = c.in_ok-table.ensures in
    let words = made.0 ∙ ap length (c.deref.ensures.value ∙ c.in_ok-words.ensures) ∙ length-map-range_with_len (first_word s) 0 (word_count s.leaders) in
    let same = c.in_ok-leader_posts.ensures.board ∙ c.load.ensures.0 ∙ made.2 in (same, ap (λ (x : TableId). x.words) same ∙ words)
