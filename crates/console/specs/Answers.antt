-- What a line answers, and what is in hand after it: the table of the console's lines.
use Rattle.std.specs.Prelude.{ℕ, ◌≡◌, List, replicate, Result, Ok, Err}
use Rattle.std.proofs.lemmas.List.Edits.{sets}
use Rattle.rules.specs.Reading.{reading_of}
use Rattle.galley_rules.specs.Degrees.{degrees_read}
use Rattle.strings.specs.Run.{is_read}
use Rattle.lent.specs.declared.Page.{Page}
use Rattle.lent.specs.Put.{Puts}
use Rattle.lent.specs.Values.{number}
use Rattle.numbers.specs.Numbers.{number_count}
use Rattle.console_text.specs.Words.{words_of}
use Rattle.console_text.specs.Frame.{Frame}
use Rattle.strings.specs.declared.kind.Kind.{Kind}
use Rattle.console_table.specs.declared.Verb.{Verb}
use Rattle.console_table.specs.declared.Verb.TheVariants as verb
use Rattle.console_table.specs.declared.View.{View}
use Rattle.console_table.specs.declared.View.TheVariants as view
use Rattle.console_table.specs.declared.Request.{Request}
use Rattle.console_table.specs.declared.Request.TheVariants.{Call, Verb as Request·verb, View as Request·view}
use Rattle.console_commands.specs.declared.Parsed.{Parsed}
use Rattle.console_commands.specs.declared.Parsed.TheVariants.{For, Encode}
use Rattle.console_commands.specs.declared.Reason.{Reason}
use Rattle.console_commands.specs.Commands.{parsed_of, values_of, line_bytes, bytes_of}
use Rattle.console_commands.specs.Kinds.{call_by, order_by}
use Rattle.console_outcome.specs.declared.hand.Hand.{Hand}
use Rattle.console_outcome.specs.Outcome.{Told, fresh, line_of}
use Rattle.console_answers.specs.Device.{call_told, start_told, fan_fail_told, dump_told, load_told}
use Rattle.console_answers.specs.Texts.{cabin_line, speed_by, speed_line}
use Rattle.console_chart.specs.Chart.{chart_of}
use Rattle.console_orders.specs.Packets.{run_told, encode_told}
use Rattle.console_galley.specs.Commands.{fresh_told, sample_told, span_by, dump_told as galley_dumped, load_told as galley_loaded}
use Rattle.console_galley.specs.Commands.{degrees_line}

-- the longest error; the longest answer, for which room is made before each line
abbrev pub longest_error : ℕ
longest_error = 110

abbrev pub longest_answer : ℕ
longest_answer = 43_079

-- what a call of a kind tells, and its record, of the first two numbers of a line
abbrev pub made_told : Hand → List ℕ → Kind → Told
made_told hand v kind = let call = call_by (number v 0) (number v 1) kind in call_told hand call (is_read call)

abbrev pub record_told : Hand → List ℕ → Kind → Told
record_told hand v kind = encode_told hand (order_by (number v 0) (number v 1) kind)

-- what a command tells that is no call, with the values and the bytes of its line, and with a buffer
abbrev pub told_by : Hand → List ℕ → List ℕ → List ℕ → Verb → Told
told_by hand v bytes buffer verb.Start = start_told hand v
told_by hand v bytes buffer verb.FanFail = fan_fail_told hand
told_by hand v bytes buffer verb.Dump = dump_told hand
told_by hand v bytes buffer verb.Load = load_told hand v
told_by hand v bytes buffer verb.Run = run_told hand v bytes buffer
told_by hand v bytes buffer verb.GalleyFresh = fresh_told hand v
told_by hand v bytes buffer verb.GalleySample = sample_told hand v bytes
told_by hand v bytes buffer verb.GalleySpan = span_by hand v bytes
told_by hand v bytes buffer verb.GalleyDump = galley_dumped hand
told_by hand v bytes buffer verb.GalleyLoad = galley_loaded hand v

-- a text of its own: what it is, or where "several lines for a person" are meant how long it is at most
abbrev pub Shows : Hand → List ℕ → Page → Page → View → Type 0
Shows hand v before after view.Cabin = Puts (cabin_line (reading_of hand.state)) before after
Shows hand v before after view.Speed = Puts (speed_line (speed_by v)) before after
Shows hand v before after view.Show = Frame 1_703 before after
Shows hand v before after view.Chart = Puts (chart_of hand.state (number v 0)) before after
Shows hand v before after view.Decode = Frame 43_079 before after
Shows hand v before after view.GalleyRead = Puts (degrees_line (degrees_read hand.galley)) before after
Shows hand v before after view.GalleyShow = Frame 262 before after
Shows hand v before after view.Help = Frame 4_096 before after

-- what a command tells is printed, and left in hand
pub record Prints (says : Told) (before after : Page) (left : Hand) : Type 0 where
  pub hand : left ≡ says.hand
  pub line : Puts (line_of says) before after

-- what is in hand, the page before and after, and what is left in hand
module _ (hand : Hand) (before after : Page) (left : Hand) where
  abbrev pub AnswersRequest : Request → List ℕ → List ℕ → Type 0
  AnswersRequest (Call kind) v bytes = Prints (made_told hand v kind) before after left
  AnswersRequest (Request·verb verb) v bytes = Prints (told_by hand v bytes fresh verb) before after left
  AnswersRequest (Request·view view) v bytes = (left ≡ hand) × Shows hand v before after view

  -- "a line that is no call leaves the state in hand as it was"
  abbrev pub Stays : Type 0
  Stays = (left ≡ hand) × Frame longest_error before after

  abbrev pub AnswersAs : Result Parsed Reason → List ℕ → List ℕ → Type 0
  AnswersAs (Ok (For request)) v bytes = AnswersRequest request v bytes
  AnswersAs (Ok (Encode kind)) v bytes = Prints (record_told hand v kind) before after left
  AnswersAs (Err reason) v bytes = Stays

  -- a line; its values are the first of as many as a state has numbers, its bytes the first of as many as a line can have, and the
  -- others are 0
  abbrev pub AnswersLine : List ℕ → Type 0
  AnswersLine line =
      AnswersAs (parsed_of (words_of line)) (sets (replicate number_count 0) 0 (values_of (words_of line)))
      (sets (replicate line_bytes 0) 0 (bytes_of (words_of line)))
