mod Comments
