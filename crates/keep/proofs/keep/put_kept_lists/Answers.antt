use Rattle.wire.proofs.Puts.{put-append}
use Rattle.keep.proofs.Keeping.{first-rises, led-list}
use Rattle.keep.proofs.keep.put_kept_lists.Goals as goal

pub put_led_list-next-requires : goal.put_led_list-next-requires
put_led_list-next-requires c = first-rises c.next-first.ensures.steps

pub put_led_list-requires : goal.put_led_list-requires
put_led_list-requires c = first-rises c.next-first.ensures.steps

pub returns : goal.returns
returns c =
    let first = c.next-first.ensures.steps in
    put-append (led-list first c.args.added c.put_led_list-next.ensures) (led-list first c.args.removed c.put_led_list.ensures)
