-- The laws of the board.
use Rattle.std.proofs.Common.{ℕ, refl}
use Rattle.atomic_table.specs.Table.{State}
use Rattle.board_rule.specs.Views.{Named}
use Rattle.board_rule.specs.Laws.{BoardLaws}
use Rattle.board_rule.specs.declared.view.View.{View}
use Rattle.board_rule.proofs.Steps.{raise_leads, halt_leads, report_leads, see_fire_leads, see_leader_leads, lag_raise_leads}
use Rattle.board_rule.proofs.Seated.{leader_split, lagger_split, empty_seat_keeps, join_keeps}

pub board_laws : (n : Named) (s : State ℕ View) (id : ℕ) → BoardLaws n s id
unfolding leader_split lagger_split empty_seat_keeps join_keeps
board_laws n s id = record {
  raises = λ k at bound may h. raise_leads n s id h k at bound may;
  halts = λ k at bound may h. halt_leads n s id h k at bound may;
  reports = λ k at may h. report_leads n s id h k at may;
  sees_fire = λ ks ls at h. see_fire_leads n s id h ks ls at;
  sees_leader = λ ks ls at p l h. see_leader_leads n s id h ks ls at p l;
  lag_raises = λ k at bound far h. lag_raise_leads n s id h k at bound far;
  splits_leader = λ k ks ls at apart h. ((leader_split n id k ks ls apart s (record { named = n; kept = h }) at).kept, tt, refl);
  splits_lagger = λ ks k ls at apart h. ((lagger_split n id k ks ls apart s (record { named = n; kept = h }) at).kept, tt, refl);
  splits_none = λ v at h. ((empty_seat_keeps id v s (record { named = n; kept = h }) at).kept, tt, refl);
  joins = λ other v w named at apart there h. ((join_keeps id v other w named s (record { named = n; kept = h }) at apart there).kept, tt, refl);
}
