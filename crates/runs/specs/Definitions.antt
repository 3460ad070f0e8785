-- The definitions that the two tables compute, in one list: a proof that unfolds `definitions` unfolds them all.
use Rattle.laws.specs.Fold.{fold}
use Rattle.laws.specs.First.{first}
use Rattle.laws.specs.Least.{least}
use Rattle.laws.specs.Count.{count}
use Rattle.laws.specs.All.{all}
use Rattle.laws.specs.Fill.{made}
use Rattle.laws.specs.Gather.{gathered, picked}
use Rattle.rule.specs.Task.{is_clear}
use Rattle.rule.specs.Rule.{independent, holds_back, lowers}
use Rattle.checks.specs.Opening.{sizes_right, ends_right, weights_right, passages_right, estimates_right, passages_bound, detours_by, detours_from, detours_bound, early_fault, fault}
use Rattle.checks.specs.Fits.{marks_right, labels_right, keys_right, workers_right, holders, held_once}
use Rattle.dealing.specs.Board.{depends_on, first_dependence, safe, key, choice, foremost, any_open, any_out, first_marked}
use Rattle.dealing.specs.Decision.{waited_for, decision}
use Rattle.dealing.specs.Limited.{compared, stops_at, comparisons, passes, follows, next, others, candidates, tried, full_count, stopped_by, limited_decision, limited}
use Rattle.trail.specs.Trail.{is_home, is_linked, go_back}
use Rattle.desk.specs.Fits.{rows_fit, fits}
use Rattle.desk.specs.Reply.{code_of}
use Rattle.desk.specs.Opening.{opened_machine, blank_machine, opening_of}
use Rattle.desk.specs.Admission.{admitted}
use Rattle.desk.specs.Take.{take_step, take_of}
use Rattle.desk.specs.Limited.{limited_answer, limited_of}
use Rattle.desk.specs.Bring.{apply_passage, sweep_of, bring_step, bring_of}
use Rattle.desk.specs.Path.{path_of}
use Rattle.desk.specs.Calls.{answers, replies, after}
use Rattle.desk.specs.Morning.{events_of, events_right, morning_fault, morning_of}
use Rattle.taskfile.specs.Bytes.{number_at, bytes_of, beyond}
use Rattle.taskfile.specs.Scan.{head_at, passage_at, row_at, call_at, record_at, advance, scanned}
use Rattle.taskfile.specs.Contents.{file_passages, file_estimates, file_calls, roomy_for, read_of}
use Rattle.taskfile.specs.Writing.{sizes_carried, head_carried, ends_carried, calls_carried, carried, head_record, passage_record, row_record, call_record, file_of, write_of}
use Rattle.gridmap.specs.Text.{byte, is_word, digit, digits, number, is_size, width_at, rows_at, head_right}
use Rattle.gridmap.specs.Map.{map_of, is_open, is_closed, rows_right, open_at, cells, state_of, state_count, count_right}
use Rattle.gridmap.specs.Passages.{free, row_to, column_to, linked, is_passage, leads_to, passage, passages_of, passages_many}
use Rattle.gridmap.specs.Estimates.{gap, octile, between, estimates_of}
use Rattle.gridmap.specs.Reading.{map_fault, roomy, read_map}
use Rattle.report.specs.Decimal.{decimal_in}
use Rattle.report.specs.Line.{numbers, spoken}
use Rattle.report.specs.Text.{conversation, session, task_text, printed}

unfoldable pub definitions : Type 0
unfolding fold first least count all made gathered picked is_clear independent holds_back lowers sizes_right ends_right weights_right passages_right estimates_right passages_bound detours_by detours_from detours_bound early_fault fault marks_right labels_right keys_right workers_right holders held_once depends_on first_dependence safe key choice foremost any_open any_out first_marked waited_for decision compared stops_at comparisons passes follows next others candidates tried full_count stopped_by limited_decision limited is_home is_linked go_back rows_fit fits code_of opened_machine blank_machine opening_of admitted take_step take_of limited_answer limited_of apply_passage sweep_of bring_step bring_of path_of answers replies after events_of events_right morning_fault morning_of number_at bytes_of beyond head_at passage_at row_at call_at record_at advance scanned file_passages file_estimates file_calls roomy_for read_of sizes_carried head_carried ends_carried calls_carried carried head_record passage_record row_record call_record file_of write_of byte is_word digit digits number is_size width_at rows_at head_right map_of is_open is_closed rows_right open_at cells state_of state_count count_right free row_to column_to linked is_passage leads_to passage passages_of passages_many gap octile between estimates_of map_fault roomy read_map decimal_in numbers spoken conversation session task_text printed
definitions = Unit
